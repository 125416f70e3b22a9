-- When a table of epochs refuses a call.
use Rattle.std.specs.Prelude.{ℕ, ◌^◌, ◌==◌, nat_le, if◌then◌else◌, Option, Some, None, is_some, length}
use Rattle.hl_model.specs.Epochs.{Table}
use Rattle.hl_model.specs.declared.fault.Fault.{Fault}
use Rattle.hl_model.specs.declared.fault.Fault.TheVariants.{NoSlot, Occupied, NotProtected, EpochsSpent}
use Rattle.hl_epoch.specs.Table.{epoch_at}

-- why slot t is not acquired: it does not exist, or is protected
abbrev pub acquire_fault : ℕ → Table → Option Fault
acquire_fault t T =
    if nat_le (length T.epochs) t then Some NoSlot
    else (if is_some (epoch_at t T) then Some Occupied else None)

-- why slot t is neither refreshed nor released: it does not exist, or is not protected
abbrev pub protected_fault : ℕ → Table → Option Fault
protected_fault t T =
    if nat_le (length T.epochs) t then Some NoSlot
    else (if is_some (epoch_at t T) then None else Some NotProtected)

-- why the current epoch does not rise: it is the last
abbrev pub bump_fault : Table → Option Fault
bump_fault T = if T.current == 2 ^ 62 then Some EpochsSpent else None
