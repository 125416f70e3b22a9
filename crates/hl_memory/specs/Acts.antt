-- What riders do at addresses: their touches, each with the address in place of its cell.
use Rattle.std.specs.Prelude.{Bool, true, false, ℕ, ◌≡◌, ◌<◌, ◌≤◌, ◌/◌, ◌⊎◌, Some, List, [], ◌∷◌, ◌++◌, map, slice_get}
use Rattle.std.specs.List.{AllByRecursion, list_any}
use Rattle.hl_model.specs.declared.step.Step.{Step}
use Rattle.hl_model.specs.declared.step.Step.TheVariants.{Write, FlushTake, FlushDone, CleanTake, CleanDone}
use Rattle.hl_model.specs.Offsets.{tail}
use Rattle.hl_model.specs.Pages.{next_to_clean}
use Rattle.hl_model.specs.Settled.{safe_read_only}
use Rattle.hl_model.specs.Sizes.{Sizes}
use Rattle.hl_history.specs.declared.view.Entry.{Entry}
use Rattle.hl_history.specs.Lists.{entry, left_by}
use Rattle.hl_words.specs.declared.view.Touch.{Touch}
use Rattle.hl_words.specs.declared.view.Touch.TheVariants.{Stored, Loaded, Changed, Called}
use Rattle.hl_words.specs.Rule.{TouchBy, by_rider, touches_of}
use Rattle.hl_words.specs.States.{RiderState}
use Rattle.hl_keeper.specs.Passes.{cell_at}
use Rattle.hl_images.specs.Entered.{IsOneCall, newest_writes, FreesSwept}

-- an act is a touch with an address in place of a cell; this is the touch
abbrev pub in_cell : Sizes → Touch → Touch
in_cell sizes (Stored a v) = Stored (cell_at sizes a) v
in_cell sizes (Loaded a v) = Loaded (cell_at sizes a) v
in_cell sizes (Changed a found v) = Changed (cell_at sizes a) found v
in_cell sizes t = t

-- those of some acts of riders
abbrev pub in_cells : Sizes → List TouchBy → List TouchBy
in_cells sizes history = map (λ t. by_rider t.rider (in_cell sizes t.touch)) history

-- the act stores the value at the address
abbrev pub IsPut : Touch → ℕ → ℕ → Type 0
IsPut act a v = (act ≡ Stored a v) ⊎ ((found : ℕ) × (act ≡ Changed a found v))

-- the store of the value at the address is this write; the newest call so far left a list whose tail is above
-- the address
abbrev pub IsWriteAt : Sizes → ℕ → ℕ → List Entry → Step → Type 0
IsWriteAt sizes a v calls w = (t : ℕ) × (w ≡ Write t a v) × (e : Entry) × (older : List Entry)
    × (calls ≡ e ∷ older) × (a < tail sizes (left_by e))

-- it is the 0 of the sweep of the address's page, which the newest call so far took to clean
abbrev pub IsZeroAt : Sizes → ℕ → ℕ → List Entry → Type 0
IsZeroAt sizes a v calls = (v ≡ 0) × (list : List Step) × (older : List Entry)
    × (calls ≡ entry list (CleanTake ∷ []) ∷ older) × (next_to_clean sizes list ≡ Some (a / sizes.page_size))

-- a step of whoever flushes pages, or cleans them
abbrev pub is_of_pages : Step → Bool
is_of_pages FlushTake = true
is_of_pages (FlushDone page ok) = true
is_of_pages CleanTake = true
is_of_pages (CleanDone page) = true
is_of_pages _ = false

-- these calls make no such step
abbrev pub NoneOfPages : List Entry → Type 0
NoneOfPages calls = AllByRecursion (λ e. list_any is_of_pages e.steps ≡ false) calls

-- Each store of these acts is a write at its address that a later call of these entered, or one that still waits; or the 0
-- of a sweep, at the address of the page that is swept. All lists stand newest first
abbrev pub AreActs : Sizes → List Touch → List Entry → List Step → Type 0
AreActs sizes [] calls waiting = waiting ≡ []
AreActs sizes (Stored a v ∷ before) calls waiting =
    ((w : Step) × (older : List Step) × (waiting ≡ w ∷ older) × IsWriteAt sizes a v calls w
    × AreActs sizes before calls older)
    ⊎ (IsZeroAt sizes a v calls × AreActs sizes before calls waiting)
AreActs sizes (Changed a found v ∷ before) calls waiting =
    (w : Step) × (older : List Step) × (waiting ≡ w ∷ older) × IsWriteAt sizes a v calls w
    × AreActs sizes before calls older
AreActs sizes (Called met left ∷ before) [] waiting = ⊥
AreActs sizes (Called met left ∷ before) (call ∷ calls) waiting =
    AreActs sizes before calls (waiting ++ newest_writes call.steps [])
AreActs sizes (_ ∷ before) calls waiting = AreActs sizes before calls waiting

-- These are the acts of a rider at a domain's end, where the one list is this: its touches by their
-- addresses. What still waits was of a pass that was abandoned; and a page that it freed, it swept
pub record AreActsOf (sizes : Sizes) (whole : List Step) (r : RiderState) (acts : List Touch) : Type 0 where
  pub waiting : List Step
  pub touches : map (in_cell sizes) acts ≡ r.view.touches
  pub entered : AreActs sizes acts r.calls waiting
  pub frees : FreesSwept sizes r.view.touches r.calls
  pub calls : AllByRecursion (λ e. IsOneCall e.steps) r.calls
  pub above : AllByRecursion (λ w. (t a v : ℕ) → w ≡ Write t a v → safe_read_only whole ≤ a) waiting

-- The one order by addresses: its acts in their cells are the order, and those of each rider are that rider's
-- acts
pub record IsHistory
    (sizes : Sizes) (whole : List Step) (riders : List RiderState) (order history : List TouchBy)
    : Type 0 where
  pub cells : in_cells sizes history ≡ order
  pub each : (i : ℕ) (r : RiderState) → slice_get riders i ≡ Some r
      → AreActsOf sizes whole r (touches_of i history)
