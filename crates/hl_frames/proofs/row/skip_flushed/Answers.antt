use Rattle.std.proofs.Common.{rules}
use Rattle.hl_frames.proofs.row.skip_flushed.Goals as goal

pub returns-then-not-is_flushed-clause-each_once : goal.returns-then-not-is_flushed-clause-each_once
returns-then-not-is_flushed-clause-each_once c = search rules

pub loop-at-preserved : goal.loop-at-preserved
loop-at-preserved c = search rules
