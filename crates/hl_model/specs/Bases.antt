-- The base of a list: its quantities, without words and jobs. Steps may go on from it when the list is gone.
use Rattle.std.specs.Prelude.{◌≡◌, ℕ, ◌%◌, ◌==◌, nat_lt, Bool, false, ◌&&◌, ◌||◌, not, if◌then◌else◌, Option, Some, None, List, map, find, option_map, slice_index_or}
use Rattle.std.specs.List.{range_with_len}
use Rattle.hl_model.specs.declared.action.Waiting.{Waiting}
use Rattle.hl_model.specs.declared.frame.Held.{Held}
use Rattle.hl_model.specs.declared.slot.Slot.{Slot}
use Rattle.hl_model.specs.declared.step.Step.{Step}
use Rattle.hl_model.specs.declared.view.Six.{Six}
use Rattle.hl_model.specs.Sizes.{Sizes}
use Rattle.hl_model.specs.Epochs.{safe_among, current_epoch, is_protected, epoch_of}
use Rattle.hl_model.specs.Actions.{pending, taken}
use Rattle.hl_model.specs.Settled.{pages_below}
use Rattle.hl_model.specs.Views.{view_of}
use Rattle.hl_model.specs.Pages.{is_flushed, is_in_flight, is_freed, is_cleaning}
use Rattle.hl_model.specs.Frames.{last_entered}
use Rattle.hl_model.specs.Snapshots.{six}
use Rattle.hl_model.specs.Replies.{IsAccepted}

-- a base: the sizes, the current epoch, what each slot has if it is protected, the pending actions and those
-- taken and not done, the six offsets, and what each frame holds
pub record Base : Type 0 where
  pub sizes : Sizes
  pub epoch : ℕ
  pub slots : List (Option Slot)
  pub waiting : List Waiting
  pub taken : List Waiting
  pub six : Six
  pub frames : List (Option Held)

-- slot t's epoch and view, if it is protected
unfoldable pub slot_of : Sizes → ℕ → List Step → Option Slot
slot_of sizes t A =
    if is_protected t A then Some (record { epoch = epoch_of t A; view = view_of sizes t A }) else None

-- a page with its marks
abbrev pub marked : Sizes → List Step → ℕ → Held
marked sizes A p = record {
  page = p;
  flushed = is_flushed sizes p A;
  in_flight = is_in_flight sizes p A;
  freed = is_freed sizes p A;
  cleaning = is_cleaning sizes p A;
}

-- what frame f holds: its last entered page, with its marks
abbrev pub held_of : Sizes → List Step → ℕ → Option Held
held_of sizes A f = option_map (marked sizes A) (last_entered sizes f A)

-- the base of a list
unfoldable pub base_of : Sizes → List Step → Base
base_of sizes A = record {
  sizes = sizes;
  epoch = current_epoch A;
  slots = map (λ t. slot_of sizes t A) (range_with_len 0 sizes.slots);
  waiting = pending A;
  taken = taken A;
  six = six sizes A;
  frames = map (held_of sizes A) (range_with_len 0 sizes.frames);
}

-- the base of some accepted list
pub record IsBase (b : Base) : Type 0 where
  pub steps : List Step
  pub accepted : IsAccepted b.sizes steps
  pub is : b ≡ base_of b.sizes steps

-- what slot t has in a base
abbrev pub slot_in : Base → ℕ → Option Slot
slot_in b t = slice_index_or b.slots t None

-- the safe epoch of a base
abbrev pub safe_in : Base → ℕ
safe_in b = safe_among b.epoch (map (option_map (λ slot. slot.epoch)) b.slots)

-- page p was completed, told what its frame holds: where that is a later page, p had to be, and p itself is
-- where its mark says so
abbrev pub completed_in : (Held → Bool) → ℕ → Option Held → Bool
completed_in mark p None = false
completed_in mark p (Some held) = nat_lt p held.page || (p == held.page && mark held)

-- page p has a mark, told what its frame holds
abbrev pub marked_in : (Held → Bool) → ℕ → Option Held → Bool
marked_in mark p None = false
marked_in mark p (Some held) = p == held.page && mark held

-- what the frame of page p holds in a base
abbrev pub held_in : Base → ℕ → Option Held
held_in b p = slice_index_or b.frames (p % b.sizes.frames) None

-- page p is flushed in a base: marked so, or entered before the last page of its frame
abbrev pub flushed_in : Base → ℕ → Bool
flushed_in b p = completed_in (λ held. held.flushed) p (held_in b p)

-- page p is freed in a base, likewise
abbrev pub freed_in : Base → ℕ → Bool
freed_in b p = completed_in (λ held. held.freed) p (held_in b p)

-- page p is in flight in a base
abbrev pub in_flight_in : Base → ℕ → Bool
in_flight_in b p = marked_in (λ held. held.in_flight) p (held_in b p)

-- page p is being cleaned in a base
abbrev pub cleaning_in : Base → ℕ → Bool
cleaning_in b p = marked_in (λ held. held.cleaning) p (held_in b p)

-- the page that a flush take names at a base
abbrev pub to_flush_in : Base → Option ℕ
to_flush_in b =
    find (λ p. not (flushed_in b p || in_flight_in b p))
    (range_with_len 0 (pages_below b.sizes b.six.safe_read_only))

-- the page that a clean take names at a base
abbrev pub to_clean_in : Base → Option ℕ
to_clean_in b =
    find (λ p. not (freed_in b p || cleaning_in b p)) (range_with_len 0 (pages_below b.sizes b.six.closed))
