use Rattle.std.proofs.Common.{subst}
use Rattle.hl_cells.specs.Engines.{Whole, IsEngine}
use Rattle.hl_cells.proofs.engine.Engine.params.Goals as goal

pub returns-clause-valid : goal.returns-clause-valid
returns-clause-valid g c = subst (λ (z : Whole g.row.F.Denot). IsEngine z) c.self.view_is c.self.invariant
