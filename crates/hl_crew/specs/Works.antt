-- What each thread of a crew does, from what it was given on, and how it is named.
use Rattle.std.specs.Prelude.{◌≡◌, ◌↔◌, ℕ, ◌-◌, ◌^◌, Bool, true, false, Option, None, Result, Ok, Err, List}
use Rattle.hl_words.specs.States.{RiderState}
use Rattle.hl_keeper.specs.declared.load.PageJob.{PageJob}
use Rattle.hl_keeper.specs.Pages.{BroomRecord}
use Rattle.hl_domain.specs.Domains.{DomainState}
use Rattle.hl_crew.specs.declared.cleaner.CleanerState.{CleanerState}
use Rattle.hl_crew.specs.declared.counts.Counts.{Counts}
use Rattle.hl_crew.specs.declared.crew.Crew.{Crew}
use Rattle.hl_crew.specs.declared.crew.CrewReport.{CrewReport}
use Rattle.hl_crew.specs.declared.flusher.asked.Asked.{Asked}
use Rattle.hl_crew.specs.declared.limits.Limits.{Limits}
use Rattle.hl_crew.specs.declared.messages.Over.{Over}
use Rattle.hl_crew.specs.declared.state.CrewState.{CrewState}
use Rattle.hl_crew.specs.declared.writer.WriterState.{WriterState}
use Rattle.hl_crew.specs.Counting.{nothing, counted_with}
use Rattle.hl_crew.specs.Goes.{Followed, UpTo}
use Rattle.hl_crew.specs.Lags.{nothing_asked}
use Rattle.hl_crew.specs.Looks.{LooksNext}
use Rattle.hl_crew.specs.Pages.{Copies, FindsPage}
use Rattle.hl_crew.specs.Runs.{TurnsBy}
use Rattle.hl_crew.specs.Turns.{Finds}

-- looks were made until they were over or one failed, at most this many
abbrev pub LooksOn : {S : Type 0} → ℕ → (Result Bool Over → S → S → Type 0) → S → S → Type 0
LooksOn most Finds old new =
    (result : Result (Unit {0}) Over) × UpTo (LooksNext Finds) most result old new

module _ {L W : Type 0} (F : Type 0) (domain : DomainState) (limits : Limits) (lets : ℕ → Type 0)
    (wrote failed : W → ℕ → List ℕ → W → Type 0) (failures : W → ℕ) where
  -- a page that was sent was copied, and written or not
  abbrev pub CopiesSent : ℕ → Result Bool Over → WriterState L W → WriterState L W → Type 0
  CopiesSent i (Ok true) old new =
      (job : PageJob) × (ok : Bool)
      × Copies lets wrote failed failures domain.sizes ok job old.rider new.rider old.pages new.pages
      × (new.counts ≡ old.counts)
  CopiesSent i (Ok false) old new = ⊥
  CopiesSent i (Err over) old new = ⊥

  -- all that a writer did: it looked for pages, if the crew serves; or it copied pages that were sent, one after another
  abbrev pub WritesBy : Bool → WriterState L W → WriterState L W → Type 0
  WritesBy true old new =
      LooksOn (2 ^ 64 - 1) (FindsPage F domain limits.cuts lets wrote failed failures) old new
  WritesBy false old new = (pages : ℕ) × Followed CopiesSent pages old new

-- all that a cleaner did: it looked for pages, as often as its limits say
abbrev pub CleansBy : {L : Type 0} → (F : Type 0) → DomainState → Limits
    → CleanerState L → CleanerState L → Type 0
CleansBy F domain limits = LooksOn limits.turns (Finds F domain limits.cuts)

-- what each thread of a crew begins with
abbrev pub begun : {L W : Type 0} → Crew L W → CrewState L W
begun crew = record {
  flusher = record { rider = crew.riders.flusher; counts = nothing; asked = nothing_asked };
  first = record { rider = crew.riders.first_writer; pages = crew.first; buffers = tt; counts = nothing };
  second =
      record { rider = crew.riders.second_writer; pages = crew.second; buffers = tt; counts = nothing };
  cleaner = record { rider = crew.riders.cleaner; swept = None };
}

-- what a report counts
abbrev pub counts_of : CrewReport → Counts
counts_of report =
    record { written = report.written; failed = report.failed; strangers = report.strangers }

-- what a crew's threads counted
abbrev pub all_counted : {L W : Type 0} → CrewState L W → Counts
all_counted state =
    counted_with (counted_with state.flusher.counts state.first.counts) state.second.counts

-- what lies in a thread's seat: what it has of its own, and whether it has done its work
pub record SeatState (S : Type 0) : Type 0 where
  pub own : S
  pub is_done : Bool

-- what a thread leaves is what it was given, if it has not done its work; else it did that from there on
abbrev pub IsLeft : {S : Type 0} → (S → S → Type 0) → S → Bool → S → Type 0
IsLeft Did given false own = own ≡ given
IsLeft Did given true own = Did given own

-- a name of a thread's seat says just that
abbrev pub Names : {S : Type 0} → (Bool → S → Type 0) → (S → S → Type 0) → S → Type 0
Names {S} left Did given = (is_done : Bool) (own : S) → left is_done own ↔ IsLeft Did given is_done own

-- so it does of something that the thread was given
abbrev pub IsNamed : {S : Type 0} → (Bool → S → Type 0) → (S → S → Type 0) → Type 0
IsNamed {S} left Did = (given : S) × Names left Did given

-- a crew's name says so of all its threads, which were given this
pub record AreNamed {L W : Type 0} (F : Type 0) (domain : DomainState) (limits : Limits) (lets : ℕ → Type 0)
    (wrote failed : W → ℕ → List ℕ → W → Type 0) (failures : W → ℕ) (serves : Bool)
    (flusher : Bool → RiderState → Counts → Asked → Type 0)
    (first second : Bool → RiderState → W → Counts → Type 0)
    (cleaner : Bool → RiderState → Option BroomRecord → Type 0) (given : CrewState L W) : Type 0 where
  pub flusher_is : Names (λ is_done own. flusher is_done own.rider own.counts own.asked)
      (TurnsBy F domain limits serves) given.flusher
  pub first_is : Names (λ is_done own. first is_done own.rider own.pages own.counts)
      (WritesBy F domain limits lets wrote failed failures serves) given.first
  pub second_is : Names (λ is_done own. second is_done own.rider own.pages own.counts)
      (WritesBy F domain limits lets wrote failed failures serves) given.second
  pub cleaner_is : Names (λ is_done own. cleaner is_done own.rider own.swept)
      (CleansBy F domain limits) given.cleaner
