-- The stamps of slots.
use Rattle.std.specs.Prelude.{◌≡◌, ℕ, ◌+◌, ◌%◌, ◌^◌, is_some, if◌then◌else◌, List, slice_index_or, slice_set, vec_capacity}
use Rattle.hl_model.specs.declared.step.Step.{Step}
use Rattle.hl_model.specs.Sizes.{Sizes}
use Rattle.hl_model.specs.Views.{slot_view}
use Rattle.hl_pass.specs.declared.stamps.Stamps.{Stamps}

-- how many are given with the next
abbrev pub next_given : Stamps → ℕ
next_given stamps = (stamps.given + 1) % 2 ^ 64

-- the next stamp: the log's own, and one more for each that is given
abbrev pub next_stamp : Stamps → ℕ
next_stamp stamps = (stamps.own + next_given stamps) % 2 ^ 64

-- slot t was given the next stamp, and no other slot any
pub record IsGiven (old : Stamps) (t : ℕ) (new : Stamps) : Type 0 where
  pub row : new.row.items ≡ slice_set old.row.items t (next_stamp old)
  pub room : vec_capacity new.row ≡ vec_capacity old.row
  pub own : new.own ≡ old.own
  pub given : new.given ≡ next_given old

-- the stamp of slot t, by the row of stamps: that of its last acquire, and 0 where it is empty
abbrev pub stamp_at : Sizes → List ℕ → List Step → ℕ → ℕ
stamp_at sizes row A t = if is_some (slot_view sizes t A) then slice_index_or row t 0 else 0
