-- A rider that stores only to sweep pages.
use Rattle.std.specs.Prelude.{ℕ, ◌≡◌, ◌<◌, ◌≤◌, ◌+◌, Some, List, [], ◌∷◌}
use Rattle.hl_model.specs.declared.step.Step.{Step}
use Rattle.hl_model.specs.declared.step.Step.TheVariants.{CleanTake}
use Rattle.hl_model.specs.Pages.{next_to_clean}
use Rattle.hl_model.specs.Sizes.{Sizes}
use Rattle.hl_history.specs.declared.view.Entry.{Entry}
use Rattle.hl_history.specs.Lists.{entry}
use Rattle.hl_words.specs.declared.view.Touch.{Touch}
use Rattle.hl_words.specs.declared.view.Touch.TheVariants.{Stored, Changed, Called}
use Rattle.hl_words.specs.States.{RiderState}
use Rattle.hl_keeper.specs.Pages.{first_cell}

-- the store of the value into the cell is a 0 of the sweep of a page, which the newest of these calls took to clean
abbrev pub IsSweep : Sizes → ℕ → ℕ → List Entry → Type 0
IsSweep sizes d v calls = (v ≡ 0) × (p : ℕ) × (list : List Step) × (older : List Entry)
    × (calls ≡ entry list (CleanTake ∷ []) ∷ older) × (next_to_clean sizes list ≡ Some p)
    × (first_cell sizes p ≤ d) × (d < first_cell sizes p + sizes.page_size)

-- each store among these touches is one of the sweep of a page that the newest call before it took to clean. Both lists
-- stand newest first
abbrev pub AreSweeps : Sizes → List Touch → List Entry → Type 0
AreSweeps sizes [] calls = Unit {0}
AreSweeps sizes (Stored d v ∷ before) calls = IsSweep sizes d v calls × AreSweeps sizes before calls
AreSweeps sizes (Changed d found v ∷ before) calls = ⊥
AreSweeps sizes (Called met left ∷ before) [] = ⊥
AreSweeps sizes (Called met left ∷ before) (call ∷ calls) = AreSweeps sizes before calls
AreSweeps sizes (_ ∷ before) calls = AreSweeps sizes before calls

-- the rider stores only to sweep pages
abbrev pub StoresSweep : Sizes → RiderState → Type 0
StoresSweep sizes r = AreSweeps sizes r.view.touches r.calls
