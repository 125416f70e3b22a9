-- The type of the core behind the door.
use denote.RattleType.{RattleType}
use Rattle.hl_core.specs.contracts.state.Core as core
use Rattle.hl_counts.specs.contracts.count_table.CountTable as table
use Rattle.hl_counts.specs.contracts.count_table.CountTableEpochs.TheImpl as epochs
use Rattle.hl_model.specs.contracts.action.Tag as tag
use Rattle.hl_model.specs.contracts.action.TagTagged.TheImpl as tagged

-- the type of the core behind the door
abbrev pub DoorRow : RattleType
DoorRow = core.the_row table.the_row tag.the_row epochs.ghosts tagged.ghosts
