use Rattle.std.proofs.Common.{refl, sym}
use Rattle.hl_cells.proofs.EngineMoves.{quiet_moves, quiet_stands}
use Rattle.hl_cells.proofs.JobLaws.{asked_stays}
use Rattle.hl_cells.proofs.engine.Engine.close.Goals as goal

pub invariant_of-self : goal.invariant_of-self
invariant_of-self g c = quiet_stands g.P.Promise.keeps _ _ _ _ _ _ refl c.self.invariant c.close.ensures.made

pub returns-clause-moved : goal.returns-clause-moved
returns-clause-moved g c = rw (sym c.self.view_is) (quiet_moves g.P.Promise.keeps _ _ _ _ _ _ refl c.close.ensures.made)

pub returns-clause-jobs : goal.returns-clause-jobs
returns-clause-jobs g c = rw (sym c.self.view_is) (asked_stays (record { core = c.self.inside.core; words = c.self.inside.words; held = c.self.inside.held }) c.close.new.self _ c.close.result refl c.close.ensures.jobs c.close.ensures.refused)
