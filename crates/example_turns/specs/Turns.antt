-- What two threads are answered that bump at the same time.
use Rattle.std.specs.Prelude.{ℕ, ◌≡◌, ◌⊎◌, List, [], ◌∷◌, ◌++◌}
use Rattle.hl_model.specs.declared.step.Step.{Step}
use Rattle.hl_model.specs.declared.step.Step.TheVariants.{Bare}
use Rattle.hl_model.specs.Actions.{bumps}
use Rattle.hl_history.specs.declared.view.Entry.{Entry}
use Rattle.hl_history.specs.Lists.{entry}
use Rattle.hl_model.specs.Sizes.{Sizes}
use Rattle.hl_words.specs.States.{RiderState}
use Rattle.hl_domain.specs.Domains.{IsEnding}
use Rattle.example_turns.specs.declared.Turns.{Turns}

-- a rider's only call met a list and made a bump there, and was answered how many bumps the list has with it
pub record Bumped (number : ℕ) (calls : List Entry) : Type 0 where
  pub list : List Step
  pub calls_are : calls ≡ entry list (Bare ∷ []) ∷ []
  pub number_is : number ≡ bumps (list ++ Bare ∷ [])

-- A domain of these sizes was ended with just these two riders, each of whom bumped once: one was answered 1 and the
-- other 2, and the current epoch after both is 3
pub record IsInTurn {F P : Type 0} (sizes : Sizes) (t : Turns F P) : Type 0 where
  pub one : RiderState
  pub two : RiderState
  pub first : Bumped t.one one.calls
  pub second : Bumped t.two two.calls
  pub ends : IsEnding sizes (one ∷ two ∷ []) t.ending
  pub numbers : ((t.one ≡ 1) × (t.two ≡ 2)) ⊎ ((t.two ≡ 1) × (t.one ≡ 2))
  pub epoch_is : t.epoch ≡ 3
