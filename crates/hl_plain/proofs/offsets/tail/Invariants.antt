use Rattle.std.proofs.Common.{◌≡◌, take}
use Rattle.hl_model.specs.AfterOffsets.{tail_after}
use Rattle.hl_plain.proofs.offsets.tail.Given as goal

abbrev pub invariant-loop-step : goal.invariant-loop-step
invariant-loop-step l = l.end ≡ tail_after l.base (take l.step-index l.steps)
