-- A table of epochs: what it tells of each slot, what each call makes of it, and what is true of every table.
use Rattle.std.specs.Prelude.{◌≡◌, ℕ, ◌+◌, ◌-◌, ◌^◌, ◌<◌, ◌≤◌, Option, Some, None, length, replicate, slice_index_or, slice_set}
use Rattle.hl_model.specs.Epochs.{Table, safe_among}

-- the epoch of slot t; None where it is not protected, and past the last slot
abbrev pub epoch_at : ℕ → Table → Option ℕ
epoch_at t T = slice_index_or T.epochs t None

-- the safe epoch: every protected slot's epoch is above it
abbrev pub safe_of : Table → ℕ
safe_of T = safe_among T.current T.epochs

-- nobody is protected
abbrev pub opened : ℕ → ℕ → ℕ → Table
opened slots window current = record { current = current; epochs = replicate slots None; window = window }

-- slot t's epoch is the current one
abbrev pub entered : ℕ → Table → Table
entered t T = record {
  current = T.current;
  epochs = slice_set T.epochs t (Some T.current);
  window = T.window;
}

-- slot t is protected no longer
abbrev pub left : ℕ → Table → Table
left t T = record { current = T.current; epochs = slice_set T.epochs t None; window = T.window }

-- the current epoch is one more
abbrev pub bumped : Table → Table
bumped T = record { current = T.current + 1; epochs = T.epochs; window = T.window }

-- what is true of every table
pub record IsTable (T : Table) : Type 0 where
  pub current_least : 1 ≤ T.current
  pub current_most : T.current ≤ 2 ^ 62
  pub slots_least : 1 ≤ length T.epochs
  pub slots_most : length T.epochs ≤ 1024
  pub window_least : 1 ≤ T.window
  pub window_most : T.window ≤ 4096
  pub safe_most : safe_of T < T.current
  pub above_safe : (t epoch : ℕ) → epoch_at t T ≡ Some epoch → safe_of T < epoch
  pub at_most_current : (t epoch : ℕ) → epoch_at t T ≡ Some epoch → epoch ≤ T.current
  pub lag_most : T.current - 1 - safe_of T ≤ T.window
