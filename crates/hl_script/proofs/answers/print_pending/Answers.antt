use Rattle.std.proofs.Common.{◌++◌, ap, ◌∙◌, arith, take_all}
use Rattle.std.specs.Prelude.{codes}
use Rattle.std.specs.List.{flat_map}
use Rattle.hl_script.specs.Answers.{waiting_text, pending_text}
use Rattle.hl_script.proofs.answers.print_pending.Goals as goal

pub returns : goal.returns
unfolding pending_text
returns c = c.loop-action.invariant.so_far ∙ ap (λ z. codes "pending" ++ flat_map waiting_text z) (take_all c.loop-action.action-index c.args.waiting.now (omega arith))
