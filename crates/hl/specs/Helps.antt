-- One round of help: the journal is cut as is due, the oldest action run if it is ready, and the session refreshes.
use Rattle.std.specs.Prelude.{◌≡◌, ◌⊎◌, ℕ, Bool, true, false, not, is_some, IfSome, IsSomeAnd, Result, Ok, Err, List, [], ◌∷◌, ◌++◌}
use Rattle.hl_model.specs.declared.fault.Fault.{Fault}
use Rattle.hl_model.specs.declared.step.Reply.{Reply}
use Rattle.hl_model.specs.declared.step.Step.{Step}
use Rattle.hl_model.specs.declared.step.Step.TheVariants.{Refresh, Take, Done}
use Rattle.hl_model.specs.declared.view.View.{View}
use Rattle.hl_action.specs.Firings.{FiringRecord}
use Rattle.hl_action.specs.Jobs.{ReadyRecord}
use Rattle.hl_action.specs.declared.ran.Outcome.{Outcome}
use Rattle.hl_words.specs.States.{RiderState}
use Rattle.hl_keeper.specs.Passes.{PassRecord, with_rider}
use Rattle.hl_domain.specs.Domains.{DomainState, Refreshed}
pub use Rattle.hl_domain.specs.Riders.{Takes}
use Rattle.hl_crew.specs.declared.limits.Cuts.{Cuts}
use Rattle.hl_crew.specs.Cutting.{EndsTurn}
use Rattle.hl_crew.specs.Overs.{is_none_ready}
use Rattle.hl_crew.specs.Tries.{EndsAction, Tries}
use Rattle.hl.specs.Records.{entered_steps}

-- an action was run: it is of the same origin and ticket, and its job, if it has one, gave the answer
pub record WasRun {F : Type 0} (gives : F → FiringRecord → ℕ → Type 0) (keeps : ℕ → FiringRecord → ℕ → Type 0)
    (ready : ReadyRecord F) (ran : Outcome) : Type 0 where
  pub origin : ran.origin ≡ ready.origin
  pub ticket : ran.ticket ≡ ready.firing.ticket
  pub answered : is_some ran.answer ≡ is_some ready.kept
  pub given : IfSome ready.kept (λ kept. IsSomeAnd ran.answer (gives kept.job ready.firing))
  pub kept : IfSome ready.kept (λ kept. IsSomeAnd ran.answer (keeps kept.tag ready.firing))

module _ (F : Type 0) (log : DomainState) where
  module _ (gives : F → FiringRecord → ℕ → Type 0) (keeps : ℕ → FiringRecord → ℕ → Type 0) where
    -- the oldest action was taken and run, and its done was answered so, by as many tries as that takes
    pub record TakesAndEnds (result : Result Reply Fault) (old new : RiderState) : Type 0 where
      pub ready : ReadyRecord F
      pub taken : RiderState
      pub takes : Takes F log (Ok ready) old taken
      pub ran : Outcome
      pub was_run : WasRun gives keeps ready ran
      pub ends : Tries F log true (EndsAction F log ran.origin ran.ticket) result taken new

    -- the take was refused so, and no more was done
    abbrev pub TakesNone : Fault → Bool → RiderState → RiderState → Type 0
    TakesNone fault none_ready old new = Takes F log (Err fault) old new × (is_none_ready fault ≡ none_ready)

    -- the oldest action was run and is done; or none was ready; or a take or a done was refused so
    abbrev pub RunsOldest : Result Bool Fault → RiderState → RiderState → Type 0
    RunsOldest (Ok true) old new = (reply : Reply) × TakesAndEnds (Ok reply) old new
    RunsOldest (Ok false) old new = (fault : Fault) × TakesNone fault true old new
    RunsOldest (Err fault) old new = TakesNone fault false old new ⊎ TakesAndEnds (Err fault) old new

    -- then the session refreshed, and it is told whether an action was run; or a call was refused so, and no more was
    -- done
    abbrev pub RunsAndRefreshes : Result Bool Fault → PassRecord → PassRecord → Type 0
    RunsAndRefreshes (Ok did) old new =
        (mid : RiderState) × (view : View) × RunsOldest (Ok did) old.rider mid
        × Refreshed F log (with_rider mid old) new (Ok view)
    RunsAndRefreshes (Err fault) old new =
        (RunsOldest (Err fault) old.rider new.rider × (new ≡ with_rider new.rider old))
        ⊎ ((did : Bool) × (mid : RiderState) × RunsOldest (Ok did) old.rider mid
        × Refreshed F log (with_rider mid old) new (Err fault))

  -- a round of help: that, once the journal was cut as is due
  abbrev pub Helps : Cuts → (F → FiringRecord → ℕ → Type 0) → (ℕ → FiringRecord → ℕ → Type 0)
      → Result Bool Fault → PassRecord → PassRecord → Type 0
  Helps cuts gives keeps result old new = (cutter : RiderState) × EndsTurn F log cuts old.rider cutter
      × RunsAndRefreshes gives keeps result (with_rider cutter old) new

-- whether a round of help was in vain: it found no action to run, or was refused
abbrev pub in_vain : Result Bool Fault → Bool
in_vain (Ok did) = not did
in_vain (Err fault) = true

-- a take and a done where an action was run; else nothing
abbrev pub AreOfHelp : Bool → List Step → Type 0
AreOfHelp true ran = (ticket : ℕ) × (ran ≡ Take ∷ Done ticket ∷ [])
AreOfHelp false ran = ran ≡ []

-- what the calls of a round of help put into the one list: the take and the done of the action that was run, and behind
-- them the touches that waited, and the refresh
abbrev pub Enters : Bool → PassRecord → PassRecord → Type 0
Enters did old new = (ran : List Step) × AreOfHelp did ran
    × (entered_steps new.rider.calls
    ≡ entered_steps old.rider.calls ++ (ran ++ (old.touches ++ Refresh old.slot ∷ [])))
