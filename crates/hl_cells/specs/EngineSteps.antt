-- How an engine answers a step, and where it stands then.
use Rattle.std.specs.Prelude.{◌≡◌, ℕ, Bool, true, false, Option, None, Result, Ok, Err, List, IsSomeAnd}
use Rattle.hl_model.specs.declared.fault.Fault.{Fault}
use Rattle.hl_model.specs.declared.step.Reply.{Reply}
use Rattle.hl_model.specs.declared.step.Reply.TheVariants.{Ran, Answer, Ticket}
use Rattle.hl_model.specs.declared.step.Step.{Step}
use Rattle.hl_model.specs.declared.step.Step.TheVariants.{Bump, Done}
use Rattle.hl_model.specs.Sizes.{Sizes}
use Rattle.hl_model.specs.Replies.{word_reply_of, extended}
use Rattle.hl_action.specs.Firings.{FiringRecord}
use Rattle.hl_action.specs.Jobs.{KeptRecord}
use Rattle.hl_cells.specs.TakenActions.{firing_at}
use Rattle.hl_cells.specs.Engines.{Whole, EngineStands}

-- the firing of the action that a step ends
abbrev pub fired : Sizes → List Step → Step → Option FiringRecord
fired sizes A (Done ticket) = firing_at sizes ticket A
fired sizes A _ = None

-- the result tells the reply; where a job of some tag was run it is the job's answer, which keeps the promise
-- for the tag under the job's firing
abbrev pub Told : (ℕ → FiringRecord → ℕ → Type 0) → Option FiringRecord → Result Reply Fault
    → Result Reply Fault → Type 0
Told keeps firing (Ok (Ran tag)) result = (answer : ℕ) × (result ≡ Ok (Answer answer))
    × IsSomeAnd firing (λ f. keeps tag f answer)
Told keeps firing reply result = result ≡ reply

-- an engine that stood at A answered a step as the definitions do, and stands at the list with the step,
-- where it was accepted
pub record Moved {F : Type 0} (keeps : ℕ → FiringRecord → ℕ → Type 0) (old : Whole F) (A : List Step)
    (step : Step) (new : Whole F) (result : Result Reply Fault) : Type 0 where
  pub told : Told keeps (fired old.core.sizes A step) (word_reply_of old.core.sizes A step) result
  pub sizes : new.core.sizes ≡ old.core.sizes
  pub standing : EngineStands new (extended old.core.sizes A step)

-- so it did at whatever list the engine stood
abbrev pub Moves : {F : Type 0} → (ℕ → FiringRecord → ℕ → Type 0) → Whole F → Step → Whole F
    → Result Reply Fault → Type 0
Moves keeps old step new result = (A : List Step) → EngineStands old A → Moved keeps old A step new result

-- a step of which a job goes in
abbrev pub is_job_bump : Step → Bool
is_job_bump (Bump tag) = true
is_job_bump _ = false

-- the answer to a job's bump as a reply
abbrev pub ticket_told : {F : Type 0} → Result ℕ (Fault × KeptRecord F) → Result Reply Fault
ticket_told (Ok ticket) = Ok (Ticket ticket)
ticket_told (Err refused) = Err refused.0
