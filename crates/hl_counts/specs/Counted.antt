-- A table of epochs that counts its turns.
use Rattle.std.specs.Prelude.{ℕ, ◌+◌, ◌==◌, Bool, false, if◌then◌else◌, Option, Some, None}
use Rattle.hl_model.specs.Epochs.{Table}
use Rattle.hl_epoch.specs.Table.{epoch_at, safe_of}
use Rattle.hl_counts.specs.Tallies.{visited}

-- a table of epochs, and the turns of its last accepted change
pub record Counted : Type 0 where
  pub table : Table
  pub turns : ℕ

-- the turns of a climb, from the epoch after one table's safe epoch to the one after another's
abbrev pub climb_turns : Table → Table → ℕ
climb_turns old new = visited (safe_of old + 1) (safe_of new + 1) new.current

-- a slot stands at this epoch
abbrev pub stands_at : ℕ → Option ℕ → Bool
stands_at epoch None = false
stands_at epoch (Some e) = e == epoch

-- the turns of a refresh of slot t: none where it stands at the current epoch already; else one at the epoch
-- that it leaves, one at the current one, and those of the climb
abbrev pub refresh_turns : ℕ → Table → Table → ℕ
refresh_turns t old new =
    if stands_at old.current (epoch_at t old) then 0 else 2 + climb_turns old new
