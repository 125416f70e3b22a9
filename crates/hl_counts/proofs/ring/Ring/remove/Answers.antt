use Rattle.std.proofs.Common.{arith}
use Rattle.std.proofs.lemmas.Grind.{common_steps}
use Rattle.hl_counts.proofs.ring.Ring.remove.Goals as goal

pub returns-clause-counts : goal.returns-clause-counts
returns-clause-counts c = grind (arith, common_steps)
