use Rattle.std.proofs.Common.{rules}
use Rattle.hl_counts.proofs.ring.Ring.climb.Goals as goal

pub loop-risen-preserved : goal.loop-risen-preserved
loop-risen-preserved c = search rules
