-- What is left of a log that was opened and closed by one call.
use Rattle.std.specs.Prelude.{⊤, ◌≡◌, ◌≢◌, ◌<◌, ◌+◌, ◌⊎◌, ℕ, Bool, true, false, Option, Result, Ok, Err, IfOk, IfErr, MatchResult, List, ◌∷◌, length, map, drop, slice_index_or}
use Rattle.std.specs.List.{AllByRecursion}
use Rattle.hl_model.specs.declared.fault.Fault.{Fault}
use Rattle.hl_model.specs.declared.fault.Fault.TheVariants.{OutOfMemory, Stranger}
use Rattle.hl_model.specs.Sizes.{Sizes}
use Rattle.hl_words.specs.States.{RiderState, new_rider}
use Rattle.hl_domain.specs.Domains.{DomainState, IsEnding}
use Rattle.hl_image.specs.Image.{image}
use Rattle.hl_images.specs.Flushes.{HasFlushed}
use Rattle.hl_images.specs.Kept.{RiderEnters}
use Rattle.hl_traces.specs.declared.act.Act.TheVariants.{Met}
use Rattle.hl_traces.specs.Traces.{trace, RiderTraces, PassTraces}
use Rattle.hl_images.specs.Sweeps.{StoresSweep}
use Rattle.hl_crew.specs.declared.crew.Crew.{Crew}
use Rattle.hl_crew.specs.declared.crew.CrewReport.{CrewReport}
use Rattle.hl_crew.specs.declared.crew.CrewRiders.{CrewRiders}
use Rattle.hl_crew.specs.declared.duty.Duty.{Duty}
use Rattle.hl_crew.specs.Limited.{duty_cuts, duty_limits}
use Rattle.hl_crew.specs.Riders.{has_flushed, CutsNone, FlushesNone, MakesCrewSteps, RidersStay, WritesPage, FailsPage}
use Rattle.hl_crew.specs.Rounds.{HasWorked}
use Rattle.hl_crew.specs.Works.{counts_of}
use Rattle.hl.specs.declared.open.Closed.{Closed}
use Rattle.hl.specs.declared.opening.Opening.{Opening}
use Rattle.hl.specs.declared.memory.MemoryDevice.{MemoryDevice}
use Rattle.hl.specs.declared.memory.Written.{Written}
use Rattle.hl.specs.declared.refused.Refused.{Refused}
use Rattle.hl.specs.declared.shared.Returned.{Returned}
use Rattle.hl.specs.Devices.{device_has, on_memory}
use Rattle.hl.specs.Openings.{was_refused}
use Rattle.hl.specs.Leaves.{LeftByTries}
use Rattle.hl.specs.Sessions.{Beside, SessionState, beside_crew, Entered}
use Rattle.hl.specs.Traces.{acts, LeavesByCalls}

-- the part handed out its result and these riders; where they are all, the ending is that of a log with them,
-- and otherwise it was refused
pub record IsClosed {Out F : Type 0} (o : Opening Sizes) (Leaves : Out → List RiderState → Type 0)
    (closed : Closed Out F) : Type 0 where
  pub riders : List RiderState
  pub left : Leaves closed.out riders
  pub ending : MatchResult closed.ending
      (λ ending. (length riders ≡ o.riders) × IsEnding o.params riders ending)
      (λ fault. (fault ≡ Stranger o.stamp) × (length riders ≢ o.riders))

-- a rider entered a session of the log, beside whom it was to be, a thread ran in it and returned a value of which so
-- much holds, and its leave was answered so, by as many tries as that takes where a full journal may be cut; the
-- session that it left is of the same log. The session's trace began with the call that entered it, and the rider's ends with
-- the calls by which it was left, or the session's, where it couldn't be
pub record Stood {Out : Type 0} (F : Type 0) (log : DomainState) (beside : Beside) (may_cut : Bool)
    (Returns : SessionState → SessionState → Out → Type 0) (old : RiderState)
    (left : Result RiderState (Refused SessionState)) (out : Out) : Type 0 where
  pub first : SessionState
  pub last : SessionState
  pub entered : Entered F log old (Ok first)
  pub log_is : first.log ≡ log
  pub beside_is : first.beside ≡ beside
  pub ran : Returns first last out
  pub log_stays : last.log ≡ log
  pub met : LeftByTries F may_cut last left
  pub came : (n : ℕ) × (acts first ≡ Met n ∷ trace log.sizes old)
  pub went : LeavesByCalls last left
  pub traces : MatchResult left (RiderTraces log.sizes)
      (λ refused. PassTraces log.sizes refused.back.pass)

-- why a thread has no result: its rider was refused a session, and is the one handed back; or it ran, and couldn't
-- leave its session, which was abandoned
abbrev pub Failed : {Out : Type 0} → (F : Type 0) → DomainState → Beside → Bool
    → (SessionState → SessionState → Out → Type 0) → RiderState → RiderState → Fault → Type 0
Failed {Out} F log beside may_cut Returns old new fault =
    Entered F log old (Err (was_refused fault new))
    ⊎ ((out : Out) × (back : SessionState) × (new ≡ back.pass.rider)
    × Stood F log beside may_cut Returns old (Err (was_refused fault back)) out)

-- the result of a thread with this rider, before and after it, is a value that it returned and left its session with,
-- or why it has none
abbrev pub Tells : {Out : Type 0} → (F : Type 0) → DomainState → Beside → Bool
    → (SessionState → SessionState → Out → Type 0) → RiderState → RiderState → Result Out Fault → Type 0
Tells F log beside may_cut Returns old new result = MatchResult result
    (Stood F log beside may_cut Returns old (Ok new)) (Failed F log beside may_cut Returns old new)

-- the rider at a place; a new one where there is none
abbrev pub rider_at : List RiderState → ℕ → RiderState
rider_at riders number = slice_index_or riders number (new_rider number)

-- each of these results tells what the thread of its place did, whose riders were these and are these
abbrev pub AreReturned : {Out : Type 0} → (F : Type 0) → DomainState → Bool
    → (ℕ → SessionState → SessionState → Out → Type 0) → (ℕ → RiderState)
    → List (Result Out Fault) → List RiderState → Type 0
AreReturned {Out} F log may_cut Returns olds outs riders =
    (number : ℕ) (other : Result Out Fault) → number < length outs
    → Tells F log beside_crew may_cut (Returns number) (olds number) (rider_at riders number)
    (slice_index_or outs number other)

-- so it is of these, of which each has its rider beside it; those riders were these
abbrev pub HaveWorked : {Out : Type 0} → (F : Type 0) → DomainState → Bool
    → (ℕ → SessionState → SessionState → Out → Type 0) → List RiderState
    → List (Result Out Fault × RiderState) → Type 0
HaveWorked F log may_cut Returns olds worked = (length worked ≡ length olds)
    × AreReturned F log may_cut Returns (rider_at olds)
    (map (λ one. one.0) worked) (map (λ one. one.1) worked)

-- each page that the rider answered as flushed it had copied, and this holds of the image of just these words
abbrev pub FlushesTaken : (ℕ → List ℕ → Type 0) → Sizes → RiderState → Type 0
FlushesTaken Took sizes r = (page : ℕ) → has_flushed page r.calls ≡ true
    → (words : List ℕ) × Took page (image page words) × HasFlushed sizes page words r

-- a crew served by this duty, or was refused since memory was: its riders, which were these and are these, stayed a crew's,
-- and cut nothing if the duty never cuts; and if they had flushed none, this holds of the image of each page that they
-- flushed
pub record HasServed (duty : Duty) (sizes : Sizes) (Took : ℕ → List ℕ → Type 0) (olds riders : List RiderState)
    (result : Result CrewReport Fault) : Type 0 where
  pub memory : IfErr result (λ fault. fault ≡ OutOfMemory)
  pub limits : IfOk result (λ report. report.limits ≡ duty_limits duty)
  pub stay : RidersStay (duty_cuts duty.cut_above) sizes olds riders
  pub images : AllByRecursion FlushesNone olds → AllByRecursion (FlushesTaken Took sizes) riders

-- a crew did all its work by this duty, with no gate to be asked: its riders were these and are these, its page writers were
-- of this kind, and this is its report
pub record CrewHasWorked {L W : Type 0} (F : Type 0) (log : DomainState) (duty : Duty)
    (has : W → ℕ → List ℕ → Type 0) (wrote failed : W → ℕ → List ℕ → W → Type 0) (failures : W → ℕ)
    (olds riders : CrewRiders L) (report : CrewReport) : Type 0 where
  pub given : Crew L W
  pub olds_are : given.riders ≡ olds
  pub crew : Crew L W
  pub riders_are : crew.riders ≡ riders
  pub worked : HasWorked F log (duty_limits duty) (λ page. ⊤) (WritesPage has wrote) (FailsPage has failed)
      failures true given crew (counts_of report)

-- a thread for each of so many riders, but the crew's four, has such a result, and its rider was the new one of its
-- number; all riders came back, those of the threads in their order before the crew's. Each of these stored into cells only
-- to sweep pages, each store of it is entered, its calls made steps of a crew alone, and cut nothing where a full journal may
-- not be cut; and of the image of each page that it flushed this holds
pub record CountReturned {Out : Type 0} (F : Type 0) (log : DomainState) (may_cut : Bool)
    (Returns : ℕ → SessionState → SessionState → Out → Type 0) (Took : ℕ → List ℕ → Type 0) (count : ℕ)
    (outs : List (Result Out Fault)) (riders : List RiderState) : Type 0 where
  pub back : length riders ≡ count
  pub threads : length outs + 4 ≡ count
  pub each : AreReturned F log may_cut Returns new_rider outs riders
  pub sweeps : AllByRecursion (StoresSweep log.sizes) (drop (length outs) riders)
  pub enters : AllByRecursion (RiderEnters log.sizes) (drop (length outs) riders)
  pub makes : AllByRecursion MakesCrewSteps (drop (length outs) riders)
  pub keeps : may_cut ≡ false → AllByRecursion CutsNone (drop (length outs) riders)
  pub images : AllByRecursion (FlushesTaken Took log.sizes) (drop (length outs) riders)

-- so it is of all riders of the log
abbrev pub AllReturned : {Out : Type 0} → (F : Type 0) → DomainState → Bool
    → (ℕ → SessionState → SessionState → Out → Type 0) → (ℕ → List ℕ → Type 0)
    → List (Result Out Fault) → List RiderState → Type 0
AllReturned F log may_cut Returns Took outs riders =
    CountReturned F log may_cut Returns Took log.riders outs riders

-- so it is of what the threads of a log returned, and of all its riders
abbrev pub AreAllReturned : {Out : Type 0} → (F : Type 0) → DomainState → Bool
    → (ℕ → SessionState → SessionState → Out → Type 0) → (ℕ → List ℕ → Type 0)
    → Returned Out → List RiderState → Type 0
AreAllReturned F log may_cut Returns Took returned riders =
    AllReturned F log may_cut Returns Took returned.outs.items riders

-- the same of what was written: the device has the pages that the crew flushed
abbrev pub AreWritten : {Out : Type 0} → (F : Type 0) → DomainState → Bool
    → (ℕ → SessionState → SessionState → Out → Type 0) → Written Out → List RiderState → Type 0
AreWritten F log may_cut Returns written riders =
    AllReturned F log may_cut Returns (on_memory written.device) written.outs.items riders

-- the same of what so many riders left: the device in memory has such a page, or this holds, if there is none
abbrev pub AreLeft : {Out : Type 0} → (F : Type 0) → DomainState → Bool
    → (ℕ → SessionState → SessionState → Out → Type 0) → (ℕ → List ℕ → Type 0) → ℕ
    → Returned Out × Option MemoryDevice → List RiderState → Type 0
AreLeft F log may_cut Returns Took count left riders =
    CountReturned F log may_cut Returns (device_has Took left.1) count left.0.outs.items riders

-- what a crew of this duty did within its limits is told, or that a thread of it couldn't be made
abbrev pub TellsCrew : Duty → Result CrewReport Fault → Type 0
TellsCrew duty told =
    MatchResult told (λ report. report.limits ≡ duty_limits duty) (λ fault. fault ≡ OutOfMemory)
