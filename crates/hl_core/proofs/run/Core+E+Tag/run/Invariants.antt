use Rattle.hl_core.proofs.RunStands.{Ran}
use Rattle.hl_core.proofs.run.Core+E+Tag.run.Given as goal

abbrev pub invariant-loop-i : goal.invariant-loop-i
invariant-loop-i g l = Ran (λ t. t.0) l.fn.self l.steps l.self l.results l.i
