use Rattle.std.proofs.Common.{sym}
use Rattle.hl_cells.proofs.EngineMoves.{frame_shows}
use Rattle.hl_cells.proofs.engine.Engine.frame.Goals as goal

pub returns-clause-shown : goal.returns-clause-shown
returns-clause-shown g c = rw (sym c.self.view_is) (frame_shows (record { core = c.self.inside.core; words = c.self.inside.words; held = c.self.inside.held }) c.args.f c.frame.result c.self.invariant c.frame.ensures)
