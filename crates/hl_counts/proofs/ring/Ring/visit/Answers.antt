use Rattle.std.proofs.Common.{rules}
use Rattle.hl_counts.proofs.ring.Ring.visit.Goals as goal

pub invariant_of-self : goal.invariant_of-self
invariant_of-self c = search rules
