-- What the riders of a crew do: which steps their calls make, what they store, and what they flush.
use Rattle.std.specs.Prelude.{ℕ, ◌≡◌, ◌≢◌, Bool, true, false, IfSome, List, [], ◌∷◌}
use Rattle.std.specs.List.{AllByRecursion, list_any}
use Rattle.hl_model.specs.declared.step.Step.{Step}
use Rattle.hl_model.specs.declared.step.Step.TheVariants.{Raise, Settle, Shift, Close, Take, Done, FlushTake, FlushDone, CleanTake, CleanDone}
use Rattle.hl_model.specs.Pages.{flushes}
use Rattle.hl_model.specs.Sizes.{Sizes}
use Rattle.hl_history.specs.declared.view.Entry.{Entry}
use Rattle.hl_words.specs.declared.view.Touch.{Touch}
use Rattle.hl_words.specs.declared.view.Touch.TheVariants.{Called}
use Rattle.hl_words.specs.States.{RiderState}
use Rattle.hl_image.specs.Image.{image}
use Rattle.hl_images.specs.Entered.{IsSwept}
use Rattle.hl_images.specs.Flushes.{HasFlushed}
use Rattle.hl_images.specs.Kept.{RiderEnters}
use Rattle.hl_images.specs.Later.{IsLater}
use Rattle.hl_images.specs.Sweeps.{StoresSweep}
use Rattle.hl_crew.specs.declared.cleaner.CleanerState.{CleanerState}
use Rattle.hl_crew.specs.declared.crew.Crew.{Crew}
use Rattle.hl_crew.specs.declared.crew.CrewRiders.{CrewRiders}
use Rattle.hl_crew.specs.declared.limits.Cuts.{Cuts}
use Rattle.hl_crew.specs.declared.limits.Cuts.TheVariants.{Never}
use Rattle.hl_crew.specs.declared.state.CrewState.{CrewState}
use Rattle.hl_crew.specs.declared.writer.WriterState.{WriterState}

-- a step of a crew: a take or a done, of an action or a page; a raise or a shift; or a bump that settles or closes. So it
-- takes and leaves no slot, and neither allocates nor writes
abbrev pub is_crew_step : Step → Bool
is_crew_step (Raise x) = true
is_crew_step Settle = true
is_crew_step (Shift x) = true
is_crew_step Close = true
is_crew_step Take = true
is_crew_step (Done ticket) = true
is_crew_step FlushTake = true
is_crew_step (FlushDone page ok) = true
is_crew_step CleanTake = true
is_crew_step (CleanDone page) = true
is_crew_step _ = false

-- the rider's calls made such steps alone
abbrev pub MakesCrewSteps : RiderState → Type 0
MakesCrewSteps r = AllByRecursion (λ e. AllByRecursion (λ s. is_crew_step s ≡ true) e.steps) r.calls

-- a call that left as many steps cut of the list as it met
abbrev pub CutsNothing : Touch → Type 0
CutsNothing (Called met left) = left.cut ≡ met.cut
CutsNothing _ = Unit {0}

-- no call of the rider cut a step of the list
abbrev pub CutsNone : RiderState → Type 0
CutsNone r = AllByRecursion CutsNothing r.view.touches

-- Whatever all riders of a crew did before, those that it hands back do: they store only to sweep pages, each store of
-- them is entered, their calls made steps of a crew alone, and cut no step, if the crew never cuts
pub record RidersStay (cuts : Cuts) (sizes : Sizes) (given riders : List RiderState) : Type 0 where
  pub sweeps : AllByRecursion (StoresSweep sizes) given → AllByRecursion (StoresSweep sizes) riders
  pub enters : AllByRecursion (RiderEnters sizes) given → AllByRecursion (RiderEnters sizes) riders
  pub makes : AllByRecursion MakesCrewSteps given → AllByRecursion MakesCrewSteps riders
  pub keeps : cuts ≡ Never → AllByRecursion CutsNone given → AllByRecursion CutsNone riders

-- some call of these answered page p as flushed
abbrev pub has_flushed : ℕ → List Entry → Bool
has_flushed p calls = list_any (λ e. list_any (flushes p) e.steps) calls

-- the rider answered no page as flushed
abbrev pub FlushesNone : RiderState → Type 0
FlushesNone r = (p : ℕ) → has_flushed p r.calls ≡ false

-- each page that the rider answered as flushed it had copied, and the writer has the image of just these words
abbrev pub HasImages : {W : Type 0} → (W → ℕ → List ℕ → Type 0) → Sizes → RiderState → W → Type 0
HasImages has sizes r pages = (p : ℕ) → has_flushed p r.calls ≡ true
    → (words : List ℕ) × has pages p (image p words) × HasFlushed sizes p words r

-- so it is with a crew: each of the writers' riders flushed only such pages, the others none
pub record AreImaged {L W : Type 0} (has : W → ℕ → List ℕ → Type 0) (sizes : Sizes) (crew : Crew L W)
    : Type 0 where
  pub flusher : FlushesNone crew.riders.flusher
  pub first : HasImages has sizes crew.riders.first_writer crew.first
  pub second : HasImages has sizes crew.riders.second_writer crew.second
  pub cleaner : FlushesNone crew.riders.cleaner

-- a writer keeps what it has of all pages but one
abbrev pub KeepsOthers : {W : Type 0} → (W → ℕ → List ℕ → Type 0) → ℕ → W → W → Type 0
KeepsOthers has page before after =
    (other : ℕ) (bytes : List ℕ) → other ≢ page → has before other bytes → has after other bytes

-- a page was written so, and the writer has it, beside what it has of others
abbrev pub WritesPage : {W : Type 0} → (W → ℕ → List ℕ → Type 0) → (W → ℕ → List ℕ → W → Type 0)
    → W → ℕ → List ℕ → W → Type 0
WritesPage has wrote before page bytes after =
    wrote before page bytes after × has after page bytes × KeepsOthers has page before after

-- the write of a page failed so, and the writer has what it has of others
abbrev pub FailsPage : {W : Type 0} → (W → ℕ → List ℕ → Type 0) → (W → ℕ → List ℕ → W → Type 0)
    → W → ℕ → List ℕ → W → Type 0
FailsPage has failed before page bytes after =
    failed before page bytes after × KeepsOthers has page before after

-- between the two a rider did more, by steps of a crew: it stored only to sweep, each store is entered, it cut nothing if
-- the crew never cuts, and if the crew serves, it flushed no page
pub record WorksOn (cuts : Cuts) (serves : Bool) (sizes : Sizes) (old new : RiderState) : Type 0 where
  pub later : IsLater old new
  pub sweeps : StoresSweep sizes old → StoresSweep sizes new
  pub enters : RiderEnters sizes old → RiderEnters sizes new
  pub makes : MakesCrewSteps old → MakesCrewSteps new
  pub keeps : cuts ≡ Never → CutsNone old → CutsNone new
  pub flushes : serves ≡ true → (p : ℕ) → has_flushed p new.calls ≡ has_flushed p old.calls

-- the same of a writer: if the crew serves, its rider flushed only pages whose images it wrote
pub record WritesOn {L W : Type 0} (has : W → ℕ → List ℕ → Type 0) (cuts : Cuts) (serves : Bool)
    (sizes : Sizes) (old new : WriterState L W) : Type 0 where
  pub later : IsLater old.rider new.rider
  pub sweeps : StoresSweep sizes old.rider → StoresSweep sizes new.rider
  pub enters : RiderEnters sizes old.rider → RiderEnters sizes new.rider
  pub makes : MakesCrewSteps old.rider → MakesCrewSteps new.rider
  pub keeps : cuts ≡ Never → CutsNone old.rider → CutsNone new.rider
  pub images : serves ≡ true → HasImages has sizes old.rider old.pages
      → HasImages has sizes new.rider new.pages

-- a page that a cleaner keeps was swept by its rider
abbrev pub KeepsSwept : {L : Type 0} → Sizes → CleanerState L → Type 0
KeepsSwept sizes own =
    IfSome own.swept (λ broom. IsSwept sizes broom.page own.rider.view.touches own.rider.calls)

-- the same of a cleaner, if such is a page that it keeps, and then such is one that it keeps
pub record SweepsOn {L : Type 0} (cuts : Cuts) (serves : Bool) (sizes : Sizes) (old new : CleanerState L)
    : Type 0 where
  pub works : WorksOn cuts serves sizes old.rider new.rider
  pub kept : KeepsSwept sizes new

-- the same of all threads of a crew
pub record AllWorkOn {L W : Type 0} (has : W → ℕ → List ℕ → Type 0) (cuts : Cuts) (serves : Bool)
    (sizes : Sizes) (old new : CrewState L W) : Type 0 where
  pub flusher : WorksOn cuts serves sizes old.flusher.rider new.flusher.rider
  pub first : WritesOn has cuts serves sizes old.first new.first
  pub second : WritesOn has cuts serves sizes old.second new.second
  pub cleaner : KeepsSwept sizes old.cleaner → SweepsOn cuts serves sizes old.cleaner new.cleaner

-- the riders of a crew, in the order in which `run_crew` takes them
abbrev pub riders_of : {L : Type 0} → CrewRiders L → List RiderState
riders_of crew = crew.flusher ∷ crew.first_writer ∷ crew.second_writer ∷ crew.cleaner ∷ []

-- the crew of some threads
abbrev pub crew_of : {L W : Type 0} → CrewState L W → Crew L W
crew_of state = record {
  riders = record {
    flusher = state.flusher.rider;
    first_writer = state.first.rider;
    second_writer = state.second.rider;
    cleaner = state.cleaner.rider;
  };
  first = state.first.pages;
  second = state.second.pages;
}

-- so it is with all riders of a crew, by the page writers that it has; and if it serves, this holds of what they flushed,
-- if those that it was given had flushed nothing
pub record AreAsGiven {L W : Type 0} (has : W → ℕ → List ℕ → Type 0) (cuts : Cuts) (serves : Bool)
    (sizes : Sizes) (given : List RiderState) (crew : Crew L W) : Type 0 where
  pub stay : RidersStay cuts sizes given (riders_of crew.riders)
  pub images : serves ≡ true → AllByRecursion FlushesNone given → AreImaged has sizes crew
