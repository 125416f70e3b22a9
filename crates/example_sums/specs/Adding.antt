-- What a rider's touches of a cell add up to after more of them, and at the end.
use Rattle.std.specs.Prelude.{ℕ, ◌≡◌, ◌+◌, ◌%◌, ◌^◌, List, [], ◌∷◌, slice_index}
use Rattle.hl_model.specs.Sizes.{Sizes}
use Rattle.hl_words.specs.declared.view.Touch.{Touch}
use Rattle.hl_words.specs.Laws.{AddsUp}
use Rattle.hl_words.specs.States.{RiderState}
use Rattle.hl_domain.specs.Domains.{IsEnding}
use Rattle.example_sums.specs.declared.Sums.{Sums}

-- whatever the one list's touches of the cell add up to, the other's add up to that and some number more, of which
-- the sum is the remainder
pub record AddsMore (cell sum : ℕ) (old new : List Touch) : Type 0 where
  pub more : ℕ
  pub sum_is : sum ≡ more % 2 ^ 64
  pub adds_up : (total : ℕ) → AddsUp cell total old → AddsUp cell (total + more) new

-- whatever the one list's touches of a cell add up to, the other's add up to the same
abbrev pub AddsNothing : List Touch → List Touch → Type 0
AddsNothing old new = (cell total : ℕ) → AddsUp cell total old → AddsUp cell total new

-- the touches of a cell add up to a number of which the sum is the remainder
pub record Added (cell sum : ℕ) (touches : List Touch) : Type 0 where
  pub total : ℕ
  pub sum_is : sum ≡ total % 2 ^ 64
  pub adds_up : AddsUp cell total touches

-- A domain of two riders was ended. Each one's touches of the cell add up to what it says that it added, and the word is
-- that of the cell at the end: the sum of both
pub record AddedUp {F P : Type 0} (sizes : Sizes) (cell : ℕ) (sums : Sums F P) : Type 0 where
  pub one : RiderState
  pub two : RiderState
  pub ends : IsEnding sizes (one ∷ two ∷ []) sums.ending
  pub first_is : Added cell sums.first one.view.touches
  pub second_is : Added cell sums.second two.view.touches
  pub word_is : sums.word ≡ slice_index sums.ending.words.words cell
  pub sum_is : sums.word ≡ (sums.first + sums.second) % 2 ^ 64
