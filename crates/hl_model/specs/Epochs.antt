-- Epochs, looked up in one flat list of steps, oldest first (FASTER, section on epoch protection).
use Rattle.std.specs.Prelude.{ℕ, ◌+◌, ◌-◌, ◌==◌, nat_lt, Bool, true, false, if◌then◌else◌, Option, Some, None, List, take, map, count_by}
use Rattle.std.specs.List.{filter_map, range_with_len}
use Rattle.hl_model.specs.declared.step.Step.{Step}
use Rattle.hl_model.specs.declared.step.Step.TheVariants.{Acquire, Refresh, Release, Bump, Settle, Close, Bare}
use Rattle.hl_model.specs.Lists.{until_last, least_or}
use Rattle.hl_model.specs.Sizes.{Sizes}

-- a bump: a step that raises the current epoch
abbrev pub is_bump : Step → Bool
is_bump (Bump tag) = true
is_bump Settle = true
is_bump Close = true
is_bump Bare = true
is_bump _ = false

-- a step at which the thread of slot t takes the current epoch for its own
abbrev pub enters : ℕ → Step → Bool
enters t (Acquire u) = u == t
enters t (Refresh u) = u == t
enters t _ = false

-- a step at which the thread of slot t ceases to be protected
abbrev pub leaves : ℕ → Step → Bool
leaves t (Release u) = u == t
leaves t _ = false

-- the current epoch: 1 and one more for each bump, so the j-th bump ends epoch j, which is its number
unfoldable pub current_epoch : List Step → ℕ
current_epoch A = 1 + count_by is_bump A

-- the mark of slot t: how many steps lead up to its last acquire or refresh, that one counted
unfoldable pub mark : ℕ → List Step → ℕ
mark t A = until_last (enters t) A

-- slot t is protected: the last of its acquires, refreshes and releases is there, and is no release
unfoldable pub is_protected : ℕ → List Step → Bool
is_protected t A = nat_lt (until_last (leaves t) A) (mark t A)

-- the list up to slot t's mark
unfoldable pub up_to_mark : ℕ → List Step → List Step
up_to_mark t A = take (mark t A) A

-- the epoch of a protected slot: the current epoch of the list up to its mark
unfoldable pub epoch_of : ℕ → List Step → ℕ
epoch_of t A = current_epoch (up_to_mark t A)

-- slot t's epoch, if it is protected
unfoldable pub slot_epoch : ℕ → List Step → Option ℕ
slot_epoch t A = if is_protected t A then Some (epoch_of t A) else None

-- the epoch of each of n slots, if it is protected
unfoldable pub slot_epochs : ℕ → List Step → List (Option ℕ)
slot_epochs n A = map (λ t. slot_epoch t A) (range_with_len 0 n)

-- the greatest epoch below those of all protected slots, or, which is our choice, below the current one where
-- there is none
unfoldable pub safe_among : ℕ → List (Option ℕ) → ℕ
safe_among current epochs = least_or current (filter_map (λ epoch. epoch) epochs) - 1

-- the safe epoch of n slots
unfoldable pub safe_epoch : ℕ → List Step → ℕ
safe_epoch n A = safe_among (current_epoch A) (slot_epochs n A)

-- the window: how many epochs at most have ended and are not safe
abbrev pub epoch_window : ℕ
epoch_window = 4096

-- what a table of epochs knows: the current epoch, each slot's epoch if it is protected, and its window
pub record Table : Type 0 where
  pub current : ℕ
  pub epochs : List (Option ℕ)
  pub window : ℕ

-- the table of a list
abbrev pub table_of : Sizes → List Step → Table
table_of sizes A = record {
  current = current_epoch A;
  epochs = slot_epochs sizes.slots A;
  window = epoch_window;
}
