use Rattle.std.proofs.Common.{◌≡◌, take, drop}
use Rattle.hl_model.specs.Actions.{takes}
use Rattle.hl_model.specs.AfterActions.{stored_after}
use Rattle.hl_plain.proofs.actions.waiting.Given as goal

abbrev pub invariant-loop-i : goal.invariant-loop-i
invariant-loop-i l = l.row.items ≡ drop (takes l.steps) (take l.i (stored_after l.base l.steps))
