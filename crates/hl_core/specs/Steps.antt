-- What one step makes of a core.
use Rattle.std.specs.Prelude.{◌≡◌, ℕ, Bool, true, false, Option, Some, None, Result, Ok, Err, List, [], ◌∷◌, ◌++◌}
use Rattle.hl_model.specs.declared.fault.Fault.{Fault}
use Rattle.hl_model.specs.declared.slot.Slot.{Slot}
use Rattle.hl_model.specs.declared.step.Reply.{Reply}
use Rattle.hl_model.specs.declared.step.Reply.TheVariants.{Entered, Ticket, Taken}
use Rattle.hl_model.specs.declared.step.Step.{Step}
use Rattle.hl_model.specs.declared.step.Step.TheVariants.{Bump, Settle, Close, Take}
use Rattle.hl_model.specs.Replies.{reply_of, extended}
use Rattle.hl_action.specs.Firings.{FiringRecord}
use Rattle.hl_drain.specs.declared.action.Ask.{Ask}
use Rattle.hl_drain.specs.declared.action.Ask.TheVariants.{User as AskUser, Settle as AskSettle, Close as AskClose}
use Rattle.hl_drain.specs.declared.action.Action.{Action}
use Rattle.hl_drain.specs.declared.action.Action.TheVariants.{User, Settle as Settling, Close as Closing}
use Rattle.hl_drain.specs.Actions.{waiting_of}
use Rattle.hl_offsets.specs.Log.{Log}
use Rattle.hl_core.specs.Standing.{State, Stands}

-- a core that stood at A answered a step as the definitions do, and stands at the list with the step, where
-- it was accepted
pub record Stepped {J : Type 0} (tag : J → ℕ) (old : State J) (A : List Step) (step : Step) (new : State J)
    (result : Result Reply Fault) : Type 0 where
  pub reply : result ≡ reply_of old.sizes A step
  pub sizes : new.sizes ≡ old.sizes
  pub standing : Stands tag new (extended old.sizes A step)

-- so it did at whatever list the core stood
abbrev pub Made : {J : Type 0} → (J → ℕ) → State J → Step → State J → Result Reply Fault → Type 0
Made tag old step new result = (A : List Step) → Stands tag old A → Stepped tag old A step new result

-- a call's answer as a reply: this one where it was accepted, else its fault
abbrev pub as_reply : {X : Type 0} → (X → Reply) → Result X Fault → Result Reply Fault
as_reply reply (Ok answer) = Ok (reply answer)
as_reply reply (Err fault) = Err fault

-- the reply to whoever entered: the slot's epoch and view
abbrev pub entered_reply : Slot → Reply
entered_reply slot = Entered slot.epoch slot.view

-- a step of which no job goes in or comes out
abbrev pub is_acted : Step → Bool
is_acted (Bump tag) = false
is_acted Settle = false
is_acted Close = false
is_acted Take = false
is_acted _ = true

module _ {J : Type 0} where
  -- the step by which this is asked for
  abbrev pub asking : (J → ℕ) → Ask J → Step
  asking tag AskSettle = Settle
  asking tag AskClose = Close
  asking tag (AskUser job) = Bump (tag job)

  -- the action that is stored: a settle and a close store the offset as it stands
  abbrev pub stored : Log → Ask J → Action J
  stored log AskSettle = Settling log.read_only
  stored log AskClose = Closing log.head
  stored log (AskUser job) = User job

  -- the job of an action, if it has one
  abbrev pub job_in : Action J → Option J
  job_in (Settling x) = None
  job_in (Closing x) = None
  job_in (User job) = Some job

  -- a bump's answer as a reply
  abbrev pub bump_reply : Result ℕ (Fault × Ask J) → Result Reply Fault
  bump_reply (Ok ticket) = Ok (Ticket ticket)
  bump_reply (Err refused) = Err refused.0

  -- a take's answer as a reply
  abbrev pub take_reply : Result (FiringRecord × Option J) Fault → Result Reply Fault
  take_reply (Ok taken) = Ok (Taken taken.0.ticket)
  take_reply (Err fault) = Err fault

  -- the oldest pending action came out with its ticket and its job, and is the last taken one
  pub record CameOut (tag : J → ℕ) (old new : State J) (ticket : ℕ) (job : Option J) : Type 0 where
    pub action : Action J
    pub oldest : old.drain.pending ≡ (ticket, action) ∷ new.drain.pending
    pub job_is : job ≡ job_in action
    pub taken : new.drain.taken ≡ old.drain.taken ++ waiting_of tag (ticket, action) ∷ []
