use Rattle.std.proofs.Common.{◌≡◌, ◌+◌, ◌*◌, ◌≤◌, ◌++◌, take, length}
use Rattle.std.specs.Prelude.{codes}
use Rattle.std.specs.List.{flat_map}
use Rattle.hl_script.specs.Answers.{waiting_text}
use Rattle.hl_script.proofs.answers.print_pending.Given as goal

-- the actions so far are in the text
abbrev pub invariant-loop-action : goal.invariant-loop-action
invariant-loop-action l = record {
  so_far : l.text.bytes ≡ codes "pending" ++ flat_map waiting_text (take l.action-index l.waiting);
  short : length l.text.bytes ≤ 7 + 50 * l.action-index;
}
