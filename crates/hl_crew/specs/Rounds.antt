-- What a crew did: the work of its threads, and the last rounds once these have ended.
use Rattle.std.specs.Prelude.{◌≡◌, ℕ, ◌-◌, ◌^◌, Bool, true, false, Result, Ok, Err, List, [], ◌∷◌}
use Rattle.hl_words.specs.States.{RiderState}
use Rattle.hl_domain.specs.Domains.{DomainState}
use Rattle.hl_crew.specs.declared.calls.CrewEnd.{CrewEnd}
use Rattle.hl_crew.specs.declared.counts.Counts.{Counts}
use Rattle.hl_crew.specs.declared.crew.Crew.{Crew}
use Rattle.hl_crew.specs.declared.flusher.FlusherState.{FlusherState}
use Rattle.hl_crew.specs.declared.state.CrewState.{CrewState}
use Rattle.hl_crew.specs.declared.messages.Over.{Over}
use Rattle.hl_crew.specs.declared.limits.Limits.{Limits}
use Rattle.hl_crew.specs.Goes.{UpTo}
use Rattle.hl_crew.specs.Pages.{FindsPage}
use Rattle.hl_crew.specs.Riders.{crew_of, riders_of}
use Rattle.hl_crew.specs.Runs.{Serves, TurnsBy}
use Rattle.hl_crew.specs.Turns.{Finds}
use Rattle.hl_crew.specs.Works.{IsLeft, LooksOn, WritesBy, CleansBy, begun, all_counted}

module _ {L W : Type 0} (F : Type 0) (domain : DomainState) (limits : Limits) (lets : ℕ → Type 0)
    (wrote failed : W → ℕ → List ℕ → W → Type 0) (failures : W → ℕ) where
  -- the writers looked for sealed pages, and then the cleaner for closed ones
  pub record AllLook (old new : CrewState L W) : Type 0 where
    pub first : LooksOn (2 ^ 64 - 1) (FindsPage F domain limits.cuts lets wrote failed failures)
        old.first new.first
    pub second : LooksOn (2 ^ 64 - 1) (FindsPage F domain limits.cuts lets wrote failed failures)
        old.second new.second
    pub cleaner : LooksOn (2 ^ 64 - 1) (Finds F domain limits.cuts) old.cleaner new.cleaner
    pub flusher : new.flusher ≡ old.flusher

  -- the flusher made a turn; where that entered a step, the others looked for pages, and another round may
  -- follow
  abbrev pub MakesRound : ℕ → Result Bool Over → CrewState L W → CrewState L W → Type 0
  MakesRound i (Ok true) old new =
      (turned : FlusherState L) × Serves F domain limits true (Ok true) old.flusher turned
      × AllLook (record old { flusher = turned }) new
  MakesRound i (Ok false) old new =
      Serves F domain limits true (Ok false) old.flusher new.flusher
      × (new ≡ record old { flusher = new.flusher })
  MakesRound i (Err over) old new =
      Serves F domain limits true (Err over) old.flusher new.flusher
      × (new ≡ record old { flusher = new.flusher })

  -- the last rounds were made, at most a thousand, up to the first in which the flusher got nowhere, or failed; or
  -- there were none
  abbrev pub RoundsIf : Bool → CrewState L W → CrewState L W → Type 0
  RoundsIf true old new = (result : Result (Unit {0}) Over) × UpTo MakesRound 1000 result old new
  RoundsIf false old new = new ≡ old

  -- each thread of a crew that was given so did all its work; what they left made the last rounds, if the crew serves;
  -- and this is the crew then, with what was counted in all
  pub record HasWorked (serves : Bool) (given crew : Crew L W) (counts : Counts) : Type 0 where
    pub left : CrewState L W
    pub flusher : TurnsBy F domain limits serves (begun given).flusher left.flusher
    pub first : WritesBy F domain limits lets wrote failed failures serves (begun given).first left.first
    pub second : WritesBy F domain limits lets wrote failed failures serves (begun given).second left.second
    pub cleaner : CleansBy F domain limits (begun given).cleaner left.cleaner
    pub last : CrewState L W
    pub rounds : RoundsIf serves left last
    pub is : crew_of last ≡ crew
    pub counts_are : all_counted last ≡ counts

  -- likewise a crew that lacked a thread, or its memory: each of its threads did all its work or nothing, and there were
  -- no last rounds
  pub record HasWorkedInPart (serves : Bool) (given crew : Crew L W) : Type 0 where
    pub left : CrewState L W
    pub by_flusher : Bool
    pub by_first : Bool
    pub by_second : Bool
    pub by_cleaner : Bool
    pub flusher : IsLeft (TurnsBy F domain limits serves) (begun given).flusher by_flusher left.flusher
    pub first : IsLeft (WritesBy F domain limits lets wrote failed failures serves) (begun given).first
        by_first left.first
    pub second : IsLeft (WritesBy F domain limits lets wrote failed failures serves) (begun given).second
        by_second left.second
    pub cleaner : IsLeft (CleansBy F domain limits) (begun given).cleaner by_cleaner left.cleaner
    pub is : crew_of left ≡ crew

  -- likewise a crew that made a number of turns: its riders and page writers were these, and are those of its end, which
  -- has its counts
  pub record CountHasWorked (riders : List RiderState) (writers : List W) (end : CrewEnd L W) : Type 0 where
    pub given : Crew L W
    pub riders_were : riders_of given.riders ≡ riders
    pub writers_were : given.first ∷ given.second ∷ [] ≡ writers
    pub crew : Crew L W
    pub riders_are : riders_of crew.riders ≡ end.riders
    pub writers_are : crew.first ∷ crew.second ∷ [] ≡ end.writers
    pub worked : HasWorked false given crew
        (record { written = end.written; failed = end.failed; strangers = end.strangers })
