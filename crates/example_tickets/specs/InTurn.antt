-- What two threads of one log are answered of which one bumps once it was told how many steps there were after the other's bump.
use Rattle.std.specs.Prelude.{ℕ, ◌≡◌, ◌<◌, ◌≤◌, List, [], ◌∷◌, ◌++◌, length, Option, Some, IfSome, slice_get}
use Rattle.std.specs.List.{AllByRecursion}
use Rattle.hl_model.specs.declared.step.Step.{Step}
use Rattle.hl_model.specs.declared.step.Step.TheVariants.{Settle}
use Rattle.hl_model.specs.Actions.{bumps}
use Rattle.hl_model.specs.Sizes.{Sizes}
use Rattle.hl_history.specs.declared.view.Entry.{Entry}
use Rattle.hl_history.specs.Lists.{entry}
use Rattle.hl_words.specs.States.{RiderState}
use Rattle.hl_domain.specs.Domains.{IsEnding}
use Rattle.hl.specs.declared.opening.Opening.{Opening}
use Rattle.hl.specs.Sessions.{SessionState}
use Rattle.example_tickets.specs.declared.in_turn.Answer.{Answer}
use Rattle.example_tickets.specs.declared.in_turn.InTurn.{InTurn}

-- Two calls between these: one met a list and bumped there, and was answered how many bumps the list has with it. The
-- next one met a list of so many steps, and made none
pub record DrewFirst (ticket steps : ℕ) (old new : List Entry) : Type 0 where
  pub list : List Step
  pub seen : List Step
  pub calls_are : new ≡ entry seen [] ∷ entry list (Settle ∷ []) ∷ old
  pub ticket_is : ticket ≡ bumps (list ++ Settle ∷ [])
  pub steps_are : steps ≡ length seen

-- Two calls between these: one met a list of no fewer than so many steps, and made none. The next one met a list and
-- bumped there, and was answered how many bumps the list has with it
pub record DrewSecond (ticket steps : ℕ) (old new : List Entry) : Type 0 where
  pub seen : List Step
  pub list : List Step
  pub calls_are : new ≡ entry list (Settle ∷ []) ∷ entry seen [] ∷ old
  pub steps_are : steps ≤ length seen
  pub ticket_is : ticket ≡ bumps (list ++ Settle ∷ [])

-- what a thread of this number drew in its session, where it answered so
abbrev pub answers : ℕ → SessionState → SessionState → Option Answer → Type 0
answers number first last out = IfSome out (λ answer.
    let old = first.pass.rider.calls
    in let new = last.pass.rider.calls
    in (number ≡ 0 → DrewFirst answer.ticket answer.steps old new)
    × (number ≡ 1 → DrewSecond answer.ticket answer.steps old new))

-- a rider is there that made the calls of its session, and among them drew a ticket so; behind them stands its leave, and
-- between calls that made no step, where a full journal refused it and was cut
pub record Drew (Draws : ℕ → ℕ → List Entry → List Entry → Type 0) (ticket steps : ℕ) (at : Option RiderState)
    : Type 0 where
  pub rider : RiderState
  pub is : at ≡ Some rider
  pub leave : Entry
  pub vain : List Entry
  pub none : AllByRecursion (λ call. call.steps ≡ []) vain
  pub enter : List Entry
  pub drawn : List Entry
  pub calls_are : rider.calls ≡ leave ∷ (vain ++ drawn)
  pub draws : Draws ticket steps enter drawn

-- the first two riders of a log that was closed drew these tickets, the second once it was told of the first one's
-- number; its ticket is greater
pub record AreInTurn (o : Opening Sizes) (drawn : InTurn) : Type 0 where
  pub riders : List RiderState
  pub steps : ℕ
  pub first : Drew DrewFirst drawn.first steps (slice_get riders 0)
  pub second : Drew DrewSecond drawn.second steps (slice_get riders 1)
  pub ends : IsEnding o.params riders drawn.ending
  pub less : drawn.first < drawn.second
