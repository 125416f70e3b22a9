-- When the current epoch of a table may rise.
use Rattle.std.specs.Prelude.{◌-◌, ◌^◌, ◌==◌, if◌then◌else◌, Option, Some, None}
use Rattle.hl_model.specs.declared.fault.Fault.{Fault}
use Rattle.hl_model.specs.declared.fault.Fault.TheVariants.{EpochsSpent, WindowFull}
use Rattle.hl_model.specs.Epochs.{Table}
use Rattle.hl_epoch.specs.Table.{safe_of}

-- why it does not: it is the last, or as many epochs have ended and are not safe as the window allows
abbrev pub rise_fault : Table → Option Fault
rise_fault T =
    if T.current == 2 ^ 62 then Some EpochsSpent
    else if T.current - 1 - safe_of T == T.window then Some WindowFull
    else None
