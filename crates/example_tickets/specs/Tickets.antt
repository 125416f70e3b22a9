-- What the threads of one log are answered that bump once each.
use Rattle.std.specs.Prelude.{ℕ, ◌≡◌, ◌≢◌, ◌+◌, ◌<◌, ◌≤◌, List, [], ◌∷◌, ◌++◌, length, map, Some, Result, Ok, IfOk, slice_get}
use Rattle.std.specs.List.{Contains}
use Rattle.hl_model.specs.declared.fault.Fault.{Fault}
use Rattle.hl_model.specs.declared.step.Step.{Step}
use Rattle.hl_model.specs.declared.step.Step.TheVariants.{Settle}
use Rattle.hl_model.specs.Actions.{bumps}
use Rattle.hl_history.specs.declared.view.Entry.{Entry}
use Rattle.hl_history.specs.Lists.{entry}
use Rattle.hl.specs.Sessions.{SessionState}

-- a call met a list and made a bump there, the one call between these, and was answered how many bumps the
-- list has with it
pub record Bumped (old new : List Entry) (ticket : ℕ) : Type 0 where
  pub list : List Step
  pub calls_are : new ≡ entry list (Settle ∷ []) ∷ old
  pub ticket_is : ticket ≡ bumps (list ++ Settle ∷ [])

-- a thread's session made one such call, whatever its number is, or the bump was refused
abbrev pub bumps_once : ℕ → SessionState → SessionState → Result ℕ Fault → Type 0
bumps_once number first last out = IfOk out (Bumped first.pass.rider.calls last.pass.rider.calls)

-- an answer for each of so many riders, but the crew's four. Where it is a ticket, no other thread has the same, and it
-- is the number of an epoch that ended. Where all are tickets and no other epoch ended, they are the numbers from 1 to
-- as many as they are
pub record AreTickets (count : ℕ) (outs : List (Result (Result ℕ Fault) Fault)) (epoch : ℕ) : Type 0 where
  pub many : length outs + 4 ≡ count
  pub apart : (i j a b : ℕ) → i < j → slice_get outs i ≡ Some (Ok (Ok a))
      → slice_get outs j ≡ Some (Ok (Ok b)) → a ≢ b
  pub within : (i a : ℕ) → slice_get outs i ≡ Some (Ok (Ok a)) → (1 ≤ a) × (a < epoch)
  pub all : (tickets : List ℕ) → outs ≡ map (λ t. Ok (Ok t)) tickets → epoch ≡ length tickets + 1
      → (k : ℕ) → 1 ≤ k → k ≤ length tickets → Contains tickets k
