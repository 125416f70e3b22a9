use Rattle.std.proofs.Common.{rules}
use Rattle.hl_cells.proofs.engine.Engine.cell_of.Goals as goal

pub returns-clause-value : goal.returns-clause-value
returns-clause-value g c = search rules
