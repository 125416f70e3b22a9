-- What is left of a log whose threads ran, and then one session more.
use Rattle.std.specs.Prelude.{◌≡◌, ◌⊎◌, ◌+◌, ℕ, nat_le, Bool, true, if◌then◌else◌, Option, Some, None, MatchOption, Result, Ok, Err, List, [], ◌∷◌, ◌++◌, map}
use Rattle.hl_model.specs.declared.fault.Fault.{Fault}
use Rattle.hl_model.specs.declared.fault.Fault.TheVariants.{AboveFlushed, OutOfMemory}
use Rattle.hl_model.specs.declared.view.Six.{Six}
use Rattle.hl_model.specs.Sizes.{Sizes}
use Rattle.hl_words.specs.States.{RiderState, new_rider}
use Rattle.hl_keeper.specs.Endings.{EndingState}
use Rattle.hl_domain.specs.Domains.{DomainState, IsEnding}
use Rattle.hl_crew.specs.declared.limits.Cuts.{Cuts}
use Rattle.hl.specs.declared.outcome.Finished.{Finished}
use Rattle.hl.specs.declared.opening.Opening.{Opening}
use Rattle.hl.specs.Configs.{behind}
use Rattle.hl.specs.Closings.{CountReturned, Failed, Stood, Tells}
use Rattle.hl.specs.Openings.{opened_as}
use Rattle.hl.specs.Sessions.{SessionState, beside_crew, without_crew}

-- the first fault among these results is this one
pub record IsFirstFault {Out : Type 0} (outs : List (Result Out Fault)) (fault : Fault) : Type 0 where
  pub before : List Out
  pub behind : List (Result Out Fault)
  pub are : outs ≡ map (λ out. Ok out) before ++ Err fault ∷ behind

-- so a session finishes: it was left as it was, and nothing was returned; or this holds of it, and of what was returned
abbrev pub Finishing : {Out : Type 0} → (SessionState → SessionState → Out → Type 0)
    → SessionState → SessionState → Option Out → Type 0
Finishing Finishes old new out = MatchOption out (new ≡ old) (Finishes old new)

-- what the session that flushed a log at its end was answered, and its rider
abbrev pub Flusher : Type 0
Flusher = Result ℕ Fault × RiderState

-- this rider was to flush the log beside its crew, and this tells what it was answered, or why it has no answer; or there is
-- no such rider
abbrev pub TellsFlush : (F : Type 0) → DomainState → Bool → (SessionState → SessionState → Result ℕ Fault → Type 0)
    → Option RiderState → Option (Result (Result ℕ Fault) Fault × RiderState) → Type 0
TellsFlush F log may_cut Flushing (Some rider) (Some told) =
    Tells F log beside_crew may_cut Flushing rider told.1 told.0
TellsFlush F log may_cut Flushing None told = told ≡ None
TellsFlush F log may_cut Flushing (Some rider) None = ⊥

-- this rider flushed the log beside its crew, and was answered so; or there is none
abbrev pub FlushedBy : (F : Type 0) → DomainState → Bool → (SessionState → SessionState → Result ℕ Fault → Type 0)
    → Option RiderState → Option Flusher → Type 0
FlushedBy F log may_cut Flushing (Some rider) (Some flusher) =
    Stood F log beside_crew may_cut Flushing rider (Ok flusher.1) flusher.0
FlushedBy F log may_cut Flushing None flusher = flusher ≡ None
FlushedBy F log may_cut Flushing (Some rider) None = ⊥

-- the same where each has an answer
abbrev pub as_told : Option Flusher → Option (Result (Result ℕ Fault) Fault × RiderState)
as_told (Some flusher) = Some (Ok flusher.0, flusher.1)
as_told None = None

-- this, if it is there
abbrev pub one_or_none : {X : Type 0} → Option X → List X
one_or_none (Some x) = x ∷ []
one_or_none None = []

-- its rider, if there is one
abbrev pub rider_of : Option Flusher → Option RiderState
rider_of (Some flusher) = Some flusher.1
rider_of None = None

-- how far a log was flushed at its close, by what the flush before it was answered: the flushed offset, if the whole log is;
-- else why not
abbrev pub why_unflushed : Option (Result ℕ Fault) → Fault
why_unflushed (Some (Err fault)) = fault
why_unflushed _ = AboveFlushed

abbrev pub answer_of_flusher : Option Flusher → Option (Result ℕ Fault)
answer_of_flusher (Some flusher) = Some flusher.0
answer_of_flusher None = None

abbrev pub flushed_by : Option (Result ℕ Fault) → Six → Result ℕ Fault
flushed_by answer six = if nat_le six.tail six.flushed then Ok six.flushed else Err (why_unflushed answer)

-- this rider was in a session of the log, with no crew to wake, which cuts so, and finished; at a full journal its
-- leave may cut. The log was then closed with it behind the others, and behind it these
pub record IsFinish {Out : Type 0} (F : Type 0) (log : DomainState) (cuts : Cuts)
    (Finishes : SessionState → SessionState → Out → Type 0)
    (riders : List RiderState) (old : RiderState) (more : List RiderState) (out : Option Out) (left : EndingState F)
    : Type 0 where
  pub last : RiderState
  pub finish : Stood F log (without_crew cuts) true (Finishing Finishes) old (Ok last) out
  pub ending : IsEnding log.sizes (riders ++ last ∷ more) left

-- this rider was refused a session of the log to finish in, or couldn't leave it
pub record IsNoFinish {Out : Type 0} (F : Type 0) (log : DomainState) (cuts : Cuts)
    (Finishes : SessionState → SessionState → Out → Type 0) (old : RiderState) (fault : Fault) : Type 0 where
  pub last : RiderState
  pub failed : Failed F log (without_crew cuts) true (Finishing Finishes) old last fault

module _ {Out : Type 0} (F : Type 0) (o : Opening Sizes) (cuts : Cuts) (flush : Bool)
    (Returns : ℕ → SessionState → SessionState → Out → Type 0)
    (Took : ℕ → List ℕ → Type 0) (Finishes : SessionState → SessionState → Out → Type 0)
    (Flushing : SessionState → SessionState → Result ℕ Fault → Type 0) where
  -- each thread, whose leave may cut, has a result; the whole log was flushed then, if that is wanted; and then a rider of its
  -- own finished. The ending is that of a log with all riders
  pub record AreFinished (finished : Finished Out F) : Type 0 where
    pub count : ℕ
    pub others : count + behind flush ≡ o.riders
    pub riders : List RiderState
    pub returned : CountReturned F (opened_as o) true Returns Took count
        (map (λ out. Ok out) finished.outs.items) riders
    pub flusher : Option Flusher
    pub flushed : FlushedBy F (opened_as o) true Flushing
        (if flush then Some (new_rider (count + 1)) else None) flusher
    pub told : finished.flushed ≡ flushed_by (answer_of_flusher flusher) finished.ending.snapshot.six
    pub finish : IsFinish F (opened_as o) cuts Finishes riders (new_rider count) (one_or_none (rider_of flusher))
        finished.last finished.ending

  -- of the threads' results the first that is a fault is this one
  pub record ThreadFailed (fault : Fault) : Type 0 where
    pub count : ℕ
    pub others : count + behind flush ≡ o.riders
    pub outs : List (Result Out Fault)
    pub riders : List RiderState
    pub returned : CountReturned F (opened_as o) true Returns Took count outs riders
    pub first : IsFirstFault outs fault

  -- each thread has a result, but the log couldn't be flushed then: a session for that was refused, or couldn't be left
  pub record FlushFailed (fault : Fault) : Type 0 where
    pub count : ℕ
    pub others : count + 2 ≡ o.riders
    pub outs : List Out
    pub riders : List RiderState
    pub returned : CountReturned F (opened_as o) true Returns Took count (map (λ out. Ok out) outs) riders
    pub last : RiderState
    pub failed : Failed F (opened_as o) beside_crew true Flushing (new_rider (count + 1)) last fault

  -- each thread has a result, but the log's last rider couldn't finish
  pub record FinishFailed (fault : Fault) : Type 0 where
    pub count : ℕ
    pub others : count + behind flush ≡ o.riders
    pub outs : List Out
    pub riders : List RiderState
    pub returned : CountReturned F (opened_as o) true Returns Took count (map (λ out. Ok out) outs) riders
    pub failed : IsNoFinish F (opened_as o) cuts Finishes (new_rider count) fault

  -- why a log whose threads ran has no result: one of the threads has none, or the log couldn't be flushed then, or the last
  -- rider couldn't finish
  abbrev pub HasFailed : Fault → Type 0
  HasFailed fault = ThreadFailed fault ⊎ ((flush ≡ true) × FlushFailed fault) ⊎ FinishFailed fault

  -- why there is none: memory was refused before the threads ran; or so
  abbrev pub IsUnfinished : Fault → Type 0
  IsUnfinished fault = (fault ≡ OutOfMemory) ⊎ HasFailed fault
