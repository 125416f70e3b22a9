-- A value that one rider stored and another found.
use Rattle.std.specs.Prelude.{ℕ, ◌≡◌, [], ◌∷◌}
use Rattle.hl_words.specs.declared.view.Extent.{Extent}
use Rattle.hl_words.specs.declared.view.OffsetWords.{OffsetWords}
use Rattle.hl_words.specs.declared.view.RiderView.{RiderView}
use Rattle.hl_words.specs.declared.view.Touch.TheVariants.{Met}
use Rattle.hl_words.specs.Rule.{IsRuledAt}
use Rattle.hl_words.specs.Views.{fresh, stored, touched, loaded}
use Rattle.example_passing.specs.declared.Passed.{Passed}

-- the rider that stored the value, and did nothing else
abbrev pub storer : ℕ → ℕ → RiderView
storer cell value = stored cell value (fresh 0)

-- the rider that was told of that store, and then loaded this, and did nothing else
abbrev pub loader : ℕ → ℕ → RiderView
loader cell found = loaded cell found (touched (Met 0 1) (fresh 1))

-- words of so many cells were ended with just these two riders, and what the one found is what the other stored
pub record IsPassed (cells cell value : ℕ) (passed : Passed) : Type 0 where
  pub stores : OffsetWords
  pub called : Extent
  pub ruled : IsRuledAt cells passed.last.words stores called
      (storer cell value ∷ loader cell passed.found ∷ [])
  pub found_is : passed.found ≡ value
