-- What the parts of a turn did.
use Rattle.std.specs.Prelude.{◌≡◌, ◌⊎◌, ℕ, ◌+◌, Bool, true, false, Option, Some, None, Result, Ok, Err, List}
use Rattle.hl_model.specs.declared.fault.Fault.{Fault}
use Rattle.hl_model.specs.declared.fault.Fault.TheVariants.{NoneClosed, NoneSealed}
use Rattle.hl_model.specs.declared.step.Step.TheVariants.{Take, FlushTake, CleanTake}
use Rattle.hl_action.specs.Jobs.{ReadyRecord}
use Rattle.hl_words.specs.States.{RiderState, with_view}
use Rattle.hl_keeper.specs.declared.load.PageJob.{PageJob}
use Rattle.hl_keeper.specs.Calls.{Makes, Stays}
use Rattle.hl_domain.specs.Domains.{DomainState, call_of, answered, LeavesUnderLock, MakesUnderLock}
use Rattle.hl_keeper.specs.Pages.{BroomRecord, to_flush, to_clean, first_cell, zeroed}
use Rattle.hl_keeper.specs.Taking.{taken_from, ready_reply}
use Rattle.hl_crew.specs.declared.cleaner.CleanerState.{CleanerState}
use Rattle.hl_crew.specs.declared.ends.Accepted.{Accepted}
use Rattle.hl_crew.specs.declared.messages.Over.{Over}
use Rattle.hl_crew.specs.declared.messages.Over.TheVariants.{Lost}
use Rattle.hl_crew.specs.declared.limits.Cuts.{Cuts}
use Rattle.hl_crew.specs.Cutting.{CutsJournal}
use Rattle.hl_crew.specs.Looks.{FindsBy}
use Rattle.hl_crew.specs.Overs.{over_of, accepted, is_none_ready, makes_room}
use Rattle.hl_crew.specs.Pouches.{Puts}
use Rattle.hl_crew.specs.Tries.{EndsAction, EndsClean, TriesFor}

-- a page whose cells were all swept, in this domain
abbrev pub swept : DomainState → BroomRecord → BroomRecord
swept domain broom = record { stamp = broom.stamp; page = broom.page; swept = domain.sizes.page_size }

-- the rider who swept them
abbrev pub swept_by : DomainState → BroomRecord → RiderState → RiderState
swept_by domain broom r =
    with_view (zeroed (first_cell domain.sizes broom.page) domain.sizes.page_size r.view) r

-- a rider that sends pages to the writers, the pouch that holds them, and how many it sent
pub record SendState : Type 0 where
  pub rider : RiderState
  pub pouch : List (Option PageJob)
  pub sent : ℕ

-- one of these
abbrev pub send_of : RiderState → List (Option PageJob) → ℕ → SendState
send_of rider pouch sent = record { rider = rider; pouch = pouch; sent = sent }

module _ (F : Type 0) (domain : DomainState) where
  -- a take was answered so
  abbrev pub Takes : Result (ReadyRecord F) Fault → RiderState → RiderState → Type 0
  Takes answer old new =
      LeavesUnderLock F domain (answered answer (call_of Take old new))
      (λ before after. Makes before Take (taken_from before) after (ready_reply answer) × Stays before after)

  -- a take of a page to be flushed was answered so
  abbrev pub Loads : Result PageJob Fault → RiderState → RiderState → Type 0
  Loads answer old new = MakesUnderLock F domain (call_of FlushTake old new) answer
      (λ before. Makes before FlushTake (to_flush before.core.sizes before.stamp))

  -- a take of a page to be cleaned was answered so
  abbrev pub Brooms : Result BroomRecord Fault → RiderState → RiderState → Type 0
  Brooms answer old new = MakesUnderLock F domain (call_of CleanTake old new) answer
      (λ before. Makes before CleanTake (to_clean before.core.sizes before.stamp))

  -- a page was taken, and put into the pouch
  abbrev pub Holds : SendState → SendState → Type 0
  Holds old new =
      (load : PageJob) × Loads (Ok load) old.rider new.rider × Puts load old.pouch new.pouch

  -- a take of a page was refused so, and the pouch is as it was
  abbrev pub HoldsNone : Fault → SendState → SendState → Type 0
  HoldsNone fault old new = Loads (Err fault) old.rider new.rider × (new.pouch ≡ old.pouch)

  -- a take of a page was refused for another reason than that none is sealed, and that is what it means for
  -- the turns; or a page was taken, and the channel failed
  abbrev pub FailsSend : Over → SendState → SendState → Type 0
  FailsSend over old new =
      ((fault : Fault) × (fault ≡ NoneSealed → ⊥) × (over ≡ over_of fault) × HoldsNone fault old new)
      ⊎ ((over ≡ Lost) × Holds old new)

  -- a page was taken and sent; or none is sealed; or that failed
  abbrev pub SendsPage : ℕ → Result Bool Over → SendState → SendState → Type 0
  SendsPage i (Ok true) old new = Holds old new × (new.sent ≡ old.sent + 1)
  SendsPage i (Ok false) old new = HoldsNone NoneSealed old new × (new.sent ≡ old.sent)
  SendsPage i (Err over) old new = FailsSend over old new × (new.sent ≡ old.sent)

module _ (F : Type 0) (domain : DomainState) (cuts : Cuts) where
  -- the done of an action was answered so, by as many tries as that takes
  abbrev pub Finishes : ℕ → ℕ → Result Accepted Over → RiderState → RiderState → Type 0
  Finishes origin ticket result old new =
      TriesFor F domain (makes_room cuts) (EndsAction F domain origin ticket) result old new

  -- an action was taken, and once it was run it was answered done
  pub record RunsOne (old new : RiderState) : Type 0 where
    pub ready : ReadyRecord F
    pub mid : RiderState
    pub taken : Takes F domain (Ok ready) old mid
    pub done : Finishes ready.origin ready.firing.ticket (Ok accepted) mid new

  -- a take of an action was refused for another reason than that none is ready, or an action was taken and
  -- then not accepted as done: that is what it means for the turns
  abbrev pub FailsAction : Over → RiderState → RiderState → Type 0
  FailsAction over old new =
      ((fault : Fault) × (is_none_ready fault ≡ false) × (over ≡ over_of fault)
      × Takes F domain (Err fault) old new)
      ⊎ ((ready : ReadyRecord F) × (mid : RiderState) × Takes F domain (Ok ready) old mid
      × Finishes ready.origin ready.firing.ticket (Err over) mid new)

  -- an action was run; or none is ready; or that failed
  abbrev pub RunsAction : ℕ → Result Bool Over → RiderState → RiderState → Type 0
  RunsAction i (Ok true) old new = RunsOne old new
  RunsAction i (Ok false) old new =
      (fault : Fault) × (is_none_ready fault ≡ true) × Takes F domain (Err fault) old new
  RunsAction i (Err over) old new = FailsAction over old new

  -- the done of a page that was swept was answered so, by as many tries as that takes; where it was refused, the cleaner
  -- keeps the page
  abbrev pub Frees : {L : Type 0} → BroomRecord → Result Bool Over → RiderState → CleanerState L → Type 0
  Frees broom (Ok true) old new =
      TriesFor F domain (makes_room cuts) (EndsClean F domain broom) (Ok accepted) old new.rider
      × (new.swept ≡ None)
  Frees broom (Ok false) old new = ⊥
  Frees broom (Err over) old new =
      TriesFor F domain (makes_room cuts) (EndsClean F domain broom) (Err over) old new.rider
      × (new.swept ≡ Some broom)

  -- none is closed
  abbrev pub FindsNone : {L : Type 0} → Result Bool Over → CleanerState L → CleanerState L → Type 0
  FindsNone result old new =
      (result ≡ Ok false) × Brooms F domain (Err NoneClosed) old.rider new.rider × (new.swept ≡ None)

  -- a take of a page was refused for another reason, and that is what it means for the turns
  abbrev pub RefusesBroom : {L : Type 0} → Result Bool Over → CleanerState L → CleanerState L → Type 0
  RefusesBroom result old new =
      (fault : Fault) × (fault ≡ NoneClosed → ⊥) × (result ≡ Err (over_of fault))
      × Brooms F domain (Err fault) old.rider new.rider × (new.swept ≡ None)

  -- a page was taken; it is of another domain, or all its cells were swept and its done was answered
  abbrev pub SweepsOne : {L : Type 0} → Result Bool Over → CleanerState L → CleanerState L → Type 0
  SweepsOne result old new =
      (broom : BroomRecord) × (taker : RiderState) × Brooms F domain (Ok broom) old.rider taker
      × (((broom.stamp ≡ domain.stamp → ⊥) × (result ≡ Err Lost) × (new.rider ≡ taker) × (new.swept ≡ None))
      ⊎ Frees (swept domain broom) result (swept_by domain broom taker) new)

  -- a page that the cleaner kept was answered, before it takes another; where it kept none, one was taken
  abbrev pub CleansNext : {L : Type 0} → Option BroomRecord → Result Bool Over
      → CleanerState L → CleanerState L → Type 0
  CleansNext (Some broom) result old new = Frees broom result old.rider new
  CleansNext None result old new =
      FindsNone result old new ⊎ RefusesBroom result old new ⊎ SweepsOne result old new

  -- a page was cleaned; or none is closed; or that failed
  abbrev pub Cleans : {L : Type 0} → Result Bool Over → CleanerState L → CleanerState L → Type 0
  Cleans result old new = CleansNext old.swept result old new

  -- a cleaner's rider cut the journal
  abbrev pub CutsByCleaner : {L : Type 0} → CleanerState L → CleanerState L → Type 0
  CutsByCleaner old new =
      CutsJournal F domain old.rider new.rider × (new ≡ record old { rider = new.rider })

  -- a look for a page to be cleaned
  abbrev pub Finds : {L : Type 0} → Result Bool Over → CleanerState L → CleanerState L → Type 0
  Finds = FindsBy Cleans CutsByCleaner cuts
