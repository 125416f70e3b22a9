use Rattle.std.proofs.Common.{◌+◌, ◌*◌}
use Rattle.hl_crew.proofs.run.Run.+flush.Given as goal

-- a page behind may fail once less
abbrev pub decreases-flush : goal.decreases-flush
decreases-flush g l = 2 * l.behind + 1

abbrev pub decreases-flush_behind : goal.decreases-flush_behind
decreases-flush_behind g l = 2 * l.behind
