-- The types of what lies behind the handles.
use denote.RattleType.{RattleType}
use Rattle.hl_log.specs.contracts.log.Log as log
use Rattle.hl_log.specs.contracts.pass.Pass as pass
use Rattle.hl_log.specs.contracts.taken.Taken as taken

-- a log
abbrev pub LogRow : RattleType
LogRow = log.the_row

-- a pass of one
abbrev pub PassRow : RattleType
PassRow = pass.the_row

-- a page that was taken from one
abbrev pub PageRow : RattleType
PageRow = taken.the_row
