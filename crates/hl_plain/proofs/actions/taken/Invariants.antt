use Rattle.std.proofs.Common.{◌≡◌, take, filter}
use Rattle.hl_model.specs.AfterActions.{ever_taken_after}
use Rattle.hl_plain.proofs.StoredLaws.{is_undone}
use Rattle.hl_plain.proofs.actions.taken.Given as goal

abbrev pub invariant-loop-i : goal.invariant-loop-i
invariant-loop-i l = l.row.items ≡ filter (is_undone l.steps) (take l.i (ever_taken_after l.base l.steps))
