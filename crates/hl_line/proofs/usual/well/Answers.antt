use Rattle.std.proofs.Common.{length, arith, ap}
use Rattle.hl_line.proofs.Whole.{at_each}
use Rattle.hl_line.proofs.usual.well.Goals as goal

pub returns-in_default-clause-none : goal.returns-in_default-clause-none
returns-in_default-clause-none c rest e = grind (arith, ap length e, at_each _ _ e)
