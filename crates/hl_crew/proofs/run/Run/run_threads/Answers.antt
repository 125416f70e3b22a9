use Rattle.std.proofs.Common.{rules}
use Rattle.hl_crew.proofs.run.Run.run_threads.Goals as goal

-- `search` finds this only where it is named
pub scoped-requires : goal.scoped-requires
scoped-requires g c = search (rules, c.requires)
