-- What two threads are answered of which the one was told of the other's bump.
use Rattle.std.specs.Prelude.{ℕ, ◌≡◌, ◌<◌, List, [], ◌∷◌, ◌++◌}
use Rattle.hl_model.specs.declared.step.Step.{Step}
use Rattle.hl_model.specs.declared.step.Step.TheVariants.{Bare}
use Rattle.hl_model.specs.Actions.{bumps}
use Rattle.hl_words.specs.declared.view.Touch.TheVariants.{Met}
use Rattle.hl_words.specs.Views.{fresh, touched}
use Rattle.hl_words.specs.States.{RiderState, with_view, new_rider}
use Rattle.hl_model.specs.Sizes.{Sizes}
use Rattle.hl_domain.specs.Domains.{with_entry, IsEnding}
use Rattle.example_turns.specs.declared.after.Numbers.{Numbers}

-- the rider's only call met a list, of which so many steps were cut before and after it, and made a bump there; it was
-- answered how many bumps the list has with it
pub record BumpedFirst (number : ℕ) (r : RiderState) : Type 0 where
  pub was : ℕ
  pub now : ℕ
  pub list : List Step
  pub is : r ≡ with_entry was now list (Bare ∷ []) (new_rider 0)
  pub number_is : number ≡ bumps (list ++ Bare ∷ [])

-- the rider that was told of the one touch of the rider 0
abbrev pub told_rider : RiderState
told_rider = with_view (touched (Met 0 1) (fresh 1)) (new_rider 1)

-- likewise of a rider that was told before of the one touch of the rider 0
pub record BumpedTold (number : ℕ) (r : RiderState) : Type 0 where
  pub was : ℕ
  pub now : ℕ
  pub list : List Step
  pub is : r ≡ with_entry was now list (Bare ∷ []) told_rider
  pub number_is : number ≡ bumps (list ++ Bare ∷ [])

-- A domain of these sizes was ended with just these two riders, of whom the second was told of the first one's bump: its
-- own number is greater
pub record InOrder {F P : Type 0} (sizes : Sizes) (numbers : Numbers F P) : Type 0 where
  pub one : RiderState
  pub two : RiderState
  pub first : BumpedFirst numbers.first one
  pub second : BumpedTold numbers.second two
  pub ends : IsEnding sizes (one ∷ two ∷ []) numbers.ending
  pub less : numbers.first < numbers.second
