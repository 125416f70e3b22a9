use Rattle.std.proofs.Common.{rules}
use Rattle.hl_cells.proofs.engine.Engine.into_drain.Goals as goal

pub returns : goal.returns
returns g c = search rules
