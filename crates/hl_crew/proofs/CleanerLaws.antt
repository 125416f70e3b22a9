-- What a cleaner does leaves it so that its rider stores only to sweep, and that a page which it keeps is swept.
use Rattle.std.proofs.Common.{◌≡◌, ℕ, zero, suc, ◌+◌, ◌≤◌, Bool, true, false, List, [], ◌∷◌, Some, None, refl, sym, ap, subst, inl, inr, arith}
use Rattle.std.specs.Prelude.{Result, Ok, Err, MatchResult, Option, IfSome}
use Rattle.std.specs.List.{AllByRecursion}
use Rattle.hl_model.specs.declared.step.Step.{Step}
use Rattle.hl_model.specs.declared.step.Step.TheVariants.{CleanTake}
use Rattle.hl_model.specs.declared.fault.Fault.{Fault}
use Rattle.hl_model.specs.declared.fault.Fault.TheVariants.{NoneClosed}
use Rattle.hl_model.specs.Pages.{next_to_clean}
use Rattle.hl_model.specs.Sizes.{Sizes}
use Rattle.hl_history.specs.declared.view.Entry.{Entry}
use Rattle.hl_history.specs.Lists.{entry}
use Rattle.hl_words.specs.declared.view.RiderView.{RiderView}
use Rattle.hl_words.specs.declared.view.Touch.TheVariants.{Stored}
use Rattle.hl_words.specs.States.{RiderState, with_view}
use Rattle.hl_keeper.specs.Calls.{step_fault, room_fault}
use Rattle.hl_keeper.specs.Keepers.{KeeperState}
use Rattle.hl_keeper.specs.Pages.{BroomRecord, first_cell, zeroed}
use Rattle.hl_domain.specs.Domains.{DomainState, LeavesUnderLock, answered, no_step, with_entry}
use Rattle.hl_images.specs.Entered.{IsSwept}
use Rattle.hl_images.specs.Kept.{RiderEnters}
use Rattle.hl_images.specs.Later.{IsLater}
use Rattle.hl_images.specs.Sweeps.{AreSweeps}
use Rattle.hl_images.proofs.KeptLaws.{riders_stay_entered}
use Rattle.hl_images.proofs.LaterLaws.{same as is_same, still, touch as later_touch, call as later_call}
use Rattle.hl_crew.specs.declared.cleaner.CleanerState.{CleanerState}
use Rattle.hl_crew.specs.declared.messages.Over.{Over}
use Rattle.hl_crew.specs.declared.limits.Cuts.{Cuts}
use Rattle.hl_crew.specs.declared.limits.Cuts.TheVariants.{Never}
use Rattle.hl_crew.specs.Cutting.{CutsJournal}
use Rattle.hl_crew.specs.Overs.{makes_room}
use Rattle.hl_crew.specs.Riders.{CutsNothing, WorksOn, KeepsSwept, SweepsOn}
use Rattle.hl_crew.specs.Tries.{TriesAgain, Tries, EndsClean}
use Rattle.hl_crew.specs.Turns.{swept as swept_page, swept_by, Brooms, Cleans, CleansNext, CutsByCleaner, Frees, Finds}
use Rattle.hl_crew.specs.Works.{LooksOn}
use Rattle.hl_crew.proofs.RepeatLaws.{finds_hold, followed_holds, looks_hold}
use Rattle.hl_crew.proofs.RiderLaws.{named, no_more, then, call_works, step_works, none_works, cut_works, room_cuts}

-- the stores of a sweep are no calls
zeros_cut_none : (cell n : ℕ) (view : RiderView) → AllByRecursion CutsNothing view.touches → AllByRecursion CutsNothing (zeroed cell n view).touches
unfolding zeroed
zeros_cut_none cell zero view none = none
zeros_cut_none cell (suc n) view none = (tt, zeros_cut_none cell n view none)

-- the zeros of a sweep behind the call that took its page
zeros_sweep : (sizes : Sizes) (p n : ℕ) (list : List Step) (older : List Entry) (view : RiderView) → next_to_clean sizes list ≡ Some p → n ≤ sizes.page_size → AreSweeps sizes view.touches (entry list (CleanTake ∷ []) ∷ older)
    → AreSweeps sizes (zeroed (first_cell sizes p) n view).touches (entry list (CleanTake ∷ []) ∷ older)
unfolding zeroed
zeros_sweep sizes p zero list older view names within is = is
zeros_sweep sizes p (suc n) list older view names within is =
    ((refl, p, list, older, refl, names, omega arith, omega (arith, within)), zeros_sweep sizes p n list older view names (omega (arith, within)) is)

-- a rider that swept is a later one
zeros_later : (cell n : ℕ) (r : RiderState) → IsLater r (with_view (zeroed cell n r.view) r)
unfolding zeroed
zeros_later cell zero r = is_same r
zeros_later cell (suc n) r =
    let mid : RiderState = with_view (zeroed cell n r.view) r in still r mid _ (zeros_later cell n r) (later_touch (Stored (cell + n) 0) mid)

-- a cleaner's looks
module _ (cuts : Cuts) (serves : Bool) (F : Type 0) (domain : DomainState) where
  abbrev Works : RiderState → RiderState → Type 0
  Works = WorksOn cuts serves domain.sizes

  -- the cells of a broom's page are swept
  abbrev IsSweptBy : BroomRecord → RiderState → Type 0
  IsSweptBy broom r = IsSwept domain.sizes broom.page r.view.touches r.calls

  broom_works : (answer : Result BroomRecord Fault) (old new : RiderState) → Brooms F domain answer old new → Works old new
  broom_works answer old new taken = step_works cuts serves domain.sizes CleanTake answer old new taken taken.holds.1.0.cut (refl, refl, refl) (λ serving p. refl)

  -- the sweep of a page that was taken
  sweep_works : (broom : BroomRecord) (old taker : RiderState) → Brooms F domain (Ok broom) old taker → Works old (swept_by domain broom taker) × IsSweptBy broom (swept_by domain broom taker)
  unfolding step_fault
  sweep_works broom old taker t =
      let next = named NoneClosed (λ p. record { stamp = t.before.stamp; page = p; swept = 0 }) (λ (b : BroomRecord). b.page) (λ p. refl) (room_fault t.before 1) (next_to_clean t.before.core.sizes t.list) broom (t.holds.0 t.list t.met.stands).reply in
      let names : next_to_clean domain.sizes t.list ≡ Some broom.page = subst (λ (z : Sizes). next_to_clean z t.list ≡ Some broom.page) t.met.sizes_are next in
      let took : RiderState = with_entry t.before.cut t.after.cut t.list (CleanTake ∷ []) old in
      let entered : taker ≡ took = t.entered in
      let works : Works old (swept_by domain broom took) = record {
        later = still old took (swept_by domain broom took) (later_call t.before.cut t.after.cut t.list (CleanTake ∷ []) old) (zeros_later (first_cell domain.sizes broom.page) domain.sizes.page_size took);
        sweeps = λ s. zeros_sweep domain.sizes broom.page domain.sizes.page_size t.list old.calls took.view names (omega arith) s;
        enters = λ h. (riders_stay_entered domain.sizes).sweeps t.before.cut t.after.cut t.list broom.page old names h;
        makes = λ m. ((refl, tt), m);
        keeps = λ never c. zeros_cut_none (first_cell domain.sizes broom.page) domain.sizes.page_size took.view (t.holds.1.0.cut, c);
        flushes = λ serving p. refl;
      } in
      subst (λ (r : RiderState). Works old (swept_by domain broom r) × IsSweptBy broom (swept_by domain broom r)) (sym entered) (works, (riders_stay_entered domain.sizes).swept t.before.cut t.after.cut t.list broom.page old names)

  -- what leaves a page swept
  abbrev Keeps : BroomRecord → RiderState → RiderState → Type 0
  Keeps broom a b = Works a b × (IsSweptBy broom a → IsSweptBy broom b)

  keeps_same : (broom : BroomRecord) (a b : RiderState) → b ≡ a → Keeps broom a b
  keeps_same broom a b same = (no_more cuts serves domain.sizes a b same, λ h. subst (IsSweptBy broom) (sym same) h)

  keeps_then : (broom : BroomRecord) (a b c : RiderState) → Keeps broom a b → Keeps broom b c → Keeps broom a c
  keeps_then broom a b c one two = (then cuts serves domain.sizes a b c one.0 two.0, λ h. two.1 (one.1 h))

  -- a call that made no step
  none_sweeps : (broom : BroomRecord) {H : KeeperState F → KeeperState F → Type 0} (old new : RiderState) (left : LeavesUnderLock F domain (no_step old new) H) → (cuts ≡ Never → left.after.cut ≡ left.before.cut) → Keeps broom old new
  none_sweeps broom old new left keep = (none_works cuts serves domain.sizes old new left keep, λ swept. subst (IsSweptBy broom) (sym left.entered) swept)

  cut_sweeps : (broom : BroomRecord) (old new : RiderState) → (cuts ≡ Never → ⊥) → CutsJournal F domain old new → Keeps broom old new
  cut_sweeps broom old new may cut = none_sweeps broom old new cut (λ never. absurd (may never))

  -- the tries of a done that frees a swept page, which is swept still where that was refused
  free_tries : (broom : BroomRecord) (result : Result ℕ Fault) (old new : RiderState) → IsSweptBy broom old → Tries F domain (makes_room cuts) (EndsClean F domain broom) result old new
      → Works old new × MatchResult result (λ _. Unit {0}) (λ _. IsSweptBy broom new)
  free_tries broom result old new swept tries = by result tries.answered
    where
      again : Keeps broom old tries.last
      again = followed_holds (Keeps broom) (keeps_same broom) (keeps_then broom) (TriesAgain F domain (makes_room cuts) (EndsClean F domain broom))
          (λ i next a b (refused, answered, room, cut). keeps_then broom a refused b (none_sweeps broom a refused answered (λ never. answered.holds.1.0.cut)) (cut_sweeps broom refused b (room_cuts cuts room) cut)) tries.before old tries.last tries.again

      by : (answer : Result ℕ Fault) → EndsClean F domain broom answer tries.last new → Works old new × MatchResult answer (λ _. Unit {0}) (λ _. IsSweptBy broom new)
      by (Err fault) done = let kept = keeps_then broom old tries.last new again (none_sweeps broom tries.last new done (λ never. done.holds.1.0.cut)) in (kept.0, kept.1 swept)
      by (Ok x) done = (
        then cuts serves domain.sizes old tries.last new again.0 (call_works cuts serves domain.sizes done (λ never. done.holds.1.0.cut) (λ list. (refl, tt)) (λ serving p list. refl)
            (λ h. subst (RiderEnters domain.sizes) (sym done.entered) ((riders_stay_entered domain.sizes).frees done.before.cut done.after.cut done.list broom.page tries.last (again.1 swept) h))),
        tt,
      )

module _ {L : Type 0} (cuts : Cuts) (serves : Bool) (F : Type 0) (domain : DomainState) where
  -- what a cleaner is known to be, where the page that it keeps is swept
  abbrev CleanerWorks : CleanerState L → CleanerState L → Type 0
  CleanerWorks old new = KeepsSwept domain.sizes old → SweepsOn cuts serves domain.sizes old new

  pub cleaner_same : (old new : CleanerState L) → new ≡ old → CleanerWorks old new
  cleaner_same old new same kept = record {
    works = no_more cuts serves domain.sizes old.rider new.rider (ap (λ (c : CleanerState L). c.rider) same);
    kept = subst (λ (c : CleanerState L). KeepsSwept domain.sizes c) (sym same) kept;
  }

  pub cleaner_then : (old mid new : CleanerState L) → CleanerWorks old mid → CleanerWorks mid new → CleanerWorks old new
  cleaner_then old mid new a b kept =
      let one = a kept in
      let two = b one.kept in
      record { works = then cuts serves domain.sizes old.rider mid.rider new.rider one.works two.works; kept = two.kept }

  -- it keeps none
  keeps_none : (new : CleanerState L) → new.swept ≡ None → KeepsSwept domain.sizes new
  keeps_none new none = subst (λ (kept : Option BroomRecord). IfSome kept (λ broom. IsSweptBy cuts serves F domain broom new.rider)) (sym none) tt

  frees_work : (broom : BroomRecord) (result : Result Bool Over) (old : RiderState) (new : CleanerState L) → IsSweptBy cuts serves F domain broom old → Frees F domain cuts broom result old new → Works cuts serves F domain old new.rider × KeepsSwept domain.sizes new
  frees_work broom (Ok true) old new swept ((answer, told, tries), none) = ((free_tries cuts serves F domain broom answer old new.rider swept tries).0, keeps_none new none)
  frees_work broom (Ok false) old new swept none = absurd none
  frees_work broom (Err over) old new swept ((Ok x, told, tries), kept) = absurd cc
  frees_work broom (Err over) old new swept ((Err fault, told, tries), kept) =
      let freed = free_tries cuts serves F domain broom (Err fault) old new.rider swept tries in
      (freed.0, subst (λ (kept : Option BroomRecord). IfSome kept (λ b. IsSweptBy cuts serves F domain b new.rider)) (sym kept) freed.1)

  clean_works : (kept : Option BroomRecord) (result : Result Bool Over) (old new : CleanerState L) → CleansNext F domain cuts kept result old new → IfSome kept (λ broom. IsSweptBy cuts serves F domain broom old.rider) → SweepsOn cuts serves domain.sizes old new
  clean_works (Some broom) result old new frees swept = let freed = frees_work broom result old.rider new swept frees in record { works = freed.0; kept = freed.1 }
  clean_works None result old new (inl (is, taken, none)) swept = record { works = broom_works cuts serves F domain (Err NoneClosed) old.rider new.rider taken; kept = keeps_none new none }
  clean_works None result old new (inr (inl (fault, other, is, taken, none))) swept = record { works = broom_works cuts serves F domain (Err fault) old.rider new.rider taken; kept = keeps_none new none }
  clean_works None result old new (inr (inr (broom, taker, taken, inl (strange, is, same, none)))) swept = record {
    works = then cuts serves domain.sizes old.rider taker new.rider (broom_works cuts serves F domain (Ok broom) old.rider taker taken) (no_more cuts serves domain.sizes taker new.rider same);
    kept = keeps_none new none;
  }
  clean_works None result old new (inr (inr (broom, taker, taken, inr frees))) swept =
      let page = sweep_works cuts serves F domain broom old.rider taker taken in
      let freed = frees_work (swept_page domain broom) result (swept_by domain broom taker) new page.1 frees in
      record { works = then cuts serves domain.sizes old.rider (swept_by domain broom taker) new.rider page.0 freed.0; kept = freed.1 }

  cut_by_works : (old new : CleanerState L) → (cuts ≡ Never → ⊥) → CutsByCleaner F domain cuts old new → CleanerWorks old new
  cut_by_works old new may (cut, same) kept =
      let swept : new.swept ≡ old.swept = ap (λ (c : CleanerState L). c.swept) same in
      record {
        works = cut_works cuts serves domain.sizes old.rider new.rider may cut;
        kept = subst (λ (k : Option BroomRecord). IfSome k (λ broom. IsSweptBy cuts serves F domain broom new.rider)) (sym swept) (by old.swept kept);
      }
    where
      by : (k : Option BroomRecord) → IfSome k (λ broom. IsSweptBy cuts serves F domain broom old.rider) → IfSome k (λ broom. IsSweptBy cuts serves F domain broom new.rider)
      by None none = tt
      by (Some broom) held = (cut_sweeps cuts serves F domain broom old.rider new.rider may cut).1 held

  find_works : (result : Result Bool Over) (old new : CleanerState L) → Finds F domain cuts result old new → CleanerWorks old new
  find_works = finds_hold CleanerWorks cleaner_same cleaner_then (Cleans F domain cuts) (CutsByCleaner F domain cuts) cuts (λ result old new. clean_works old.swept result old new) (λ room old new. cut_by_works old new (room_cuts cuts room))

  -- all looks of a cleaner
  pub cleaner_works : (most : ℕ) (old new : CleanerState L) → LooksOn most (Finds F domain cuts) old new → CleanerWorks old new
  cleaner_works most old new (result, looks) = looks_hold CleanerWorks cleaner_same cleaner_then (Finds F domain cuts) find_works most result old new looks
