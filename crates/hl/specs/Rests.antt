-- A rider between two sessions of its log.
use Rattle.std.specs.Prelude.{◌≡◌, ℕ, Bool, Result, Ok, Err}
use Rattle.hl_model.specs.declared.fault.Fault.{Fault}
use Rattle.hl_words.specs.States.{RiderState}
use Rattle.hl_keeper.specs.Passes.{PassRecord, with_rider}
use Rattle.hl_domain.specs.Domains.{DomainState}
use Rattle.hl_crew.specs.declared.limits.Cuts.{Cuts}
use Rattle.hl_crew.specs.Cutting.{EndsTurn}
use Rattle.hl_crew.specs.Goes.{Followed}
use Rattle.hl.specs.declared.refused.Refused.{Refused}
use Rattle.hl.specs.Openings.{was_refused}
use Rattle.hl.specs.Sessions.{Beside, SessionState, alone, Entered, Left}

-- a rider that rests, the log that it left, and who serves that beside it
pub record RestState : Type 0 where
  pub log : DomainState
  pub rider : RiderState
  pub beside : Beside

-- the rider that a session left, or the session
abbrev pub left_rider : Result RestState (Refused SessionState) → Result RiderState (Refused SessionState)
left_rider (Ok resting) = Ok resting.rider
left_rider (Err refused) = Err refused

-- the session that a rider entered, or the rider
abbrev pub entered_session : Result SessionState (Refused RestState)
    → Result SessionState (Refused RiderState)
entered_session (Ok session) = Ok session
entered_session (Err refused) = Err (was_refused refused.fault refused.back.rider)

-- a session was to leave its slot, and was answered as a release of it
abbrev pub Suspended : (F : Type 0) → SessionState → Result RestState (Refused SessionState) → Type 0
Suspended F session result = Left F session (left_rider result)

-- a rider that rests was to enter again, and was answered as an acquire of the least slot that isn't protected
abbrev pub Resumed : (F : Type 0) → RestState → Result SessionState (Refused RestState) → Type 0
Resumed F rest result = Entered F rest.log rest.rider (entered_session result)

-- a session of this log by a pass alone
abbrev pub by_pass : DomainState → PassRecord → SessionState
by_pass log pass = record { log = log; pass = pass; beside = alone }

module _ (F : Type 0) (log : DomainState) (cuts : Cuts) where
  -- a rider was to enter, and was refused, and then the journal was cut as is due: another try may follow
  abbrev pub EntersNext : ℕ → Result Bool Fault → RiderState → RiderState → Type 0
  EntersNext i next old new = (fault : Fault) × (refused : RiderState)
      × Entered F log old (Err (was_refused fault refused)) × EndsTurn F log cuts refused new

  -- a rider entered, after so many tries that were refused
  pub record Reenters (rider : RiderState) (pass : PassRecord) : Type 0 where
    pub refused : ℕ
    pub last : RiderState
    pub before : Followed EntersNext refused rider last
    pub entered : Entered F log last (Ok (by_pass log pass))

  -- a pass left its slot, then a call returned this, and then the rider entered again; or the pass couldn't leave, and has its
  -- rider
  abbrev pub LeavesFor : {X : Type 0} → (X → Type 0) → Result X Fault → PassRecord → PassRecord → Type 0
  LeavesFor Gives (Ok x) old new =
      (left : RiderState) × Left F (by_pass log old) (Ok left) × Gives x × Reenters left new
  LeavesFor Gives (Err fault) old new =
      Left F (by_pass log old) (Err (was_refused fault (by_pass log new)))
      × (new ≡ with_rider new.rider old)

  -- so a pass did once the journal was cut as is due
  abbrev pub RestsOf : {X : Type 0} → (X → Type 0) → Result X Fault → PassRecord → PassRecord → Type 0
  RestsOf Gives result old new = (cutter : RiderState) × EndsTurn F log cuts old.rider cutter
      × LeavesFor Gives result (with_rider cutter old) new

-- likewise a session
abbrev pub Rests : (F : Type 0) {X : Type 0} → (X → Type 0) → Result X Fault → SessionState → SessionState
    → Type 0
Rests F Gives result old new = RestsOf F old.log old.beside.cuts Gives result old.pass new.pass
