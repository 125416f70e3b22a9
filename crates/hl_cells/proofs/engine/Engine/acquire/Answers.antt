use Rattle.std.proofs.Common.{refl, sym}
use Rattle.hl_cells.proofs.EngineMoves.{quiet_moves, quiet_stands}
use Rattle.hl_cells.proofs.JobLaws.{core_stays}
use Rattle.hl_cells.proofs.engine.Engine.acquire.Goals as goal

pub invariant_of-self : goal.invariant_of-self
invariant_of-self g c = quiet_stands g.P.Promise.keeps _ _ _ _ _ _ refl c.self.invariant c.acquire.ensures.made

pub returns-clause-moved : goal.returns-clause-moved
returns-clause-moved g c = rw (sym c.self.view_is) (quiet_moves g.P.Promise.keeps _ _ _ _ _ _ refl c.acquire.ensures.made)

pub returns-clause-jobs : goal.returns-clause-jobs
returns-clause-jobs g c = rw (sym c.self.view_is) (core_stays _ _ _ _ c.acquire.ensures.jobs)
