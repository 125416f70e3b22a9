-- Which job lies under which ticket: from the bump that stored it until the done that runs it.
use Rattle.std.specs.Prelude.{◌≡◌, ℕ, ◌==◌, Bool, false, if◌then◌else◌, Option, Some, None, option_and_then, Result, Ok, List, ◌++◌, map, find, IfSome, IfOk, IsSomeAnd}
use Rattle.hl_model.specs.declared.fault.Fault.{Fault}
use Rattle.hl_model.specs.declared.step.Reply.{Reply}
use Rattle.hl_model.specs.declared.step.Reply.TheVariants.{Answer}
use Rattle.hl_model.specs.declared.step.Step.{Step}
use Rattle.hl_model.specs.declared.step.Step.TheVariants.{Done}
use Rattle.hl_action.specs.Firings.{FiringRecord}
use Rattle.hl_action.specs.Jobs.{KeptRecord, ReadyRecord}
use Rattle.hl_drain.specs.declared.action.Action.{Action}
use Rattle.hl_core.specs.Steps.{job_in}
use Rattle.hl_cells.specs.TakenActions.{firing_at}
use Rattle.hl_cells.specs.Engines.{Whole}

-- by this answer to this step the action of ticket c is done
abbrev pub ends : ℕ → Step → Result Reply Fault → Bool
ends c (Done ticket) (Ok reply) = ticket == c
ends c _ _ = false

module _ {F : Type 0} where
  -- a taken action's ticket and job
  abbrev pub of_taken : ReadyRecord F → ℕ × Option (KeptRecord F)
  of_taken ready = (ready.firing.ticket, ready.kept)

  -- a pending action's ticket and job
  abbrev pub of_pending : ℕ × Action (KeptRecord F) → ℕ × Option (KeptRecord F)
  of_pending entry = (entry.0, job_in entry.1)

  -- the actions that aren't done, oldest first: those that are taken, and those that are pending
  abbrev pub undone_jobs : Whole F → List (ℕ × Option (KeptRecord F))
  undone_jobs engine = map of_taken engine.held.actions ++ map of_pending engine.core.drain.pending

  -- the job that lies under ticket c: that of its action, pending or taken, until that is done
  unfoldable pub job_under : Whole F → ℕ → Option (KeptRecord F)
  job_under engine c =
      option_and_then (λ action. action.1) (find (λ action. action.0 == c) (undone_jobs engine))

  -- each job lies where it lay
  abbrev pub JobsStay : Whole F → Whole F → Type 0
  JobsStay old new = (c : ℕ) → job_under new c ≡ job_under old c

  -- a job was stored under this ticket, and all others lie where they lay
  abbrev pub JobStored : KeptRecord F → Whole F → Whole F → ℕ → Type 0
  JobStored kept old new ticket = (c : ℕ)
      → job_under new c ≡ (if ticket == c then Some kept else job_under old c)

  -- a step leaves each job under its ticket, but for the job of the action that it ends: that one is gone
  abbrev pub JobsKept : Whole F → Step → Whole F → Result Reply Fault → Type 0
  JobsKept old step new result = (c : ℕ)
      → job_under new c ≡ (if ends c step result then None else job_under old c)

  -- an engine that stood at A ended an action: the answer is one that the job under its ticket gives under
  -- the firing of its take
  abbrev pub RunsItsJob : (F → FiringRecord → ℕ → Type 0) → Whole F → List Step → Step → Result Reply Fault
      → Type 0
  RunsItsJob gives old A (Done ticket) result =
      IfSome (job_under old ticket) (λ kept. IfOk result (λ reply. (answer : ℕ) × (reply ≡ Answer answer)
      × IsSomeAnd (firing_at old.core.sizes ticket A) (λ firing. gives kept.job firing answer)))
  RunsItsJob gives old A _ result = Unit
