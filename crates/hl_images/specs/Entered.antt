-- When each store of a rider is a write of its calls, or of those that still wait to be entered, or a 0 of a sweep.
use Rattle.std.specs.Prelude.{ℕ, ◌≡◌, ◌<◌, ◌≤◌, ◌+◌, ◌*◌, ◌⊎◌, Bool, true, false, List, [], ◌∷◌, ◌++◌}
use Rattle.std.specs.List.{AllByRecursion}
use Rattle.hl_model.specs.declared.step.Step.{Step}
use Rattle.hl_model.specs.declared.step.Step.TheVariants.{Look, Write, CleanDone}
use Rattle.hl_model.specs.Offsets.{tail}
use Rattle.hl_model.specs.Settled.{safe_read_only}
use Rattle.hl_model.specs.Sizes.{Sizes}
use Rattle.hl_history.specs.declared.view.Entry.{Entry}
use Rattle.hl_history.specs.Lists.{left_by}
use Rattle.hl_words.specs.declared.view.Touch.{Touch}
use Rattle.hl_words.specs.declared.view.Touch.TheVariants.{Stored, Loaded, Changed, Called}
use Rattle.hl_words.specs.States.{RiderState}
use Rattle.hl_keeper.specs.Passes.{cell_at}
use Rattle.hl_keeper.specs.Pages.{first_cell}
use Rattle.hl_keeper.specs.Touches.{is_call}
use Rattle.hl_images.specs.Sweeps.{IsSweep}

-- a step that a pass makes without the lock
abbrev pub is_touch : Step → Bool
is_touch (Look t read_only head) = true
is_touch (Write t a v) = true
is_touch _ = false

-- the steps of one call: none, or one; or the touches of a pass and a step of it behind them
abbrev pub IsOneCall : List Step → Type 0
IsOneCall steps = (steps ≡ [])
    ⊎ ((touches : List Step) × (s : Step) × (steps ≡ touches ++ s ∷ [])
    × AllByRecursion (λ t. is_touch t ≡ true) touches × ((touches ≡ []) ⊎ (is_call s ≡ true)))

-- the writes among some steps, the newest first, and then these
abbrev pub newest_writes : List Step → List Step → List Step
newest_writes [] older = older
newest_writes (Write t a v ∷ steps) older = newest_writes steps (Write t a v ∷ older)
newest_writes (_ ∷ steps) older = newest_writes steps older

-- the store of the value into the cell is this write; the newest call so far left a list whose tail is above its address
abbrev pub IsWriteOf : Sizes → ℕ → ℕ → List Entry → Step → Type 0
IsWriteOf sizes d v calls w = (t a : ℕ) × (w ≡ Write t a v) × (cell_at sizes a ≡ d)
    × (e : Entry) × (older : List Entry) × (calls ≡ e ∷ older) × (a < tail sizes (left_by e))

-- the store of the value into the cell is a 0 of the sweep of this page
abbrev pub IsSweepOf : Sizes → ℕ → ℕ → ℕ → List Entry → Type 0
IsSweepOf sizes p d v calls = (sweep : IsSweep sizes d v calls) × (sweep.1 ≡ p)

-- Each of these stores is a write that a later call of these entered, or one that still waits, in their order; or it is a
-- 0 of the sweep of a page that the rider's newest call so far took to clean. All lists stand newest first
abbrev pub AreEntered : Sizes → List Touch → List Entry → List Step → Type 0
AreEntered sizes [] calls waiting = waiting ≡ []
AreEntered sizes (Stored d v ∷ before) calls waiting =
    ((w : Step) × (older : List Step) × (waiting ≡ w ∷ older) × IsWriteOf sizes d v calls w
    × AreEntered sizes before calls older)
    ⊎ (IsSweep sizes d v calls × AreEntered sizes before calls waiting)
AreEntered sizes (Changed d found v ∷ before) calls waiting =
    (w : Step) × (older : List Step) × (waiting ≡ w ∷ older) × IsWriteOf sizes d v calls w
    × AreEntered sizes before calls older
AreEntered sizes (Called met left ∷ before) [] waiting = ⊥
AreEntered sizes (Called met left ∷ before) (call ∷ calls) waiting =
    AreEntered sizes before calls (waiting ++ newest_writes call.steps [])
AreEntered sizes (_ ∷ before) calls waiting = AreEntered sizes before calls waiting

-- the 0 of the sweep of a page into the cell is among these touches
abbrev pub HasZero : Sizes → ℕ → ℕ → List Touch → List Entry → Type 0
HasZero sizes p d [] calls = ⊥
HasZero sizes p d (Stored x v ∷ before) calls =
    ((x ≡ d) × IsSweepOf sizes p d v calls) ⊎ HasZero sizes p d before calls
HasZero sizes p d (Called met left ∷ before) [] = ⊥
HasZero sizes p d (Called met left ∷ before) (call ∷ calls) = HasZero sizes p d before calls
HasZero sizes p d (_ ∷ before) calls = HasZero sizes p d before calls

-- so it is with each cell of the page
abbrev pub IsSwept : Sizes → ℕ → List Touch → List Entry → Type 0
IsSwept sizes p touches calls = (d : ℕ) → first_cell sizes p ≤ d → d < first_cell sizes p + sizes.page_size
    → HasZero sizes p d touches calls

-- each of these calls that freed a page was made after the whole sweep of it
abbrev pub FreesSwept : Sizes → List Touch → List Entry → Type 0
FreesSwept sizes [] calls = Unit {0}
FreesSwept sizes (Called met left ∷ before) [] = ⊥
FreesSwept sizes (Called met left ∷ before) (call ∷ calls) =
    ((p : ℕ) → call.steps ≡ CleanDone p ∷ [] → IsSwept sizes p before calls) × FreesSwept sizes before calls
FreesSwept sizes (_ ∷ before) calls = FreesSwept sizes before calls

-- these touches load only cells that there are
abbrev pub LoadsWithin : Sizes → List Touch → Type 0
LoadsWithin sizes ts = AllByRecursion (λ t. (d v : ℕ) → t ≡ Loaded d v → 0 < sizes.page_size → 0 < sizes.frames
    → d < sizes.frames * sizes.page_size) ts

-- So it is with each store of a rider, where the one list is this: what still waits was of a pass that was abandoned, and
-- lies above what is sealed; and a page that it freed, it swept
pub record StoresEnter (sizes : Sizes) (whole : List Step) (r : RiderState) : Type 0 where
  pub waiting : List Step
  pub entered : AreEntered sizes r.view.touches r.calls waiting
  pub frees : FreesSwept sizes r.view.touches r.calls
  pub calls : AllByRecursion (λ e. IsOneCall e.steps) r.calls
  pub above : AllByRecursion (λ w. (t a v : ℕ) → w ≡ Write t a v → safe_read_only whole ≤ a) waiting
  pub within : LoadsWithin sizes r.view.touches
