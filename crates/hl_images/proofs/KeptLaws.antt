-- The stores of riders stay writes of their calls, or 0s of their sweeps.
use Rattle.std.proofs.Common.{◌≡◌, ◌≢◌, ℕ, zero, suc, ◌+◌, ◌*◌, ◌<◌, ◌≤◌, true, false, List, [], ◌∷◌, ◌++◌, length, Some, None, refl, ap, sym, ◌∙◌, inl, inr, ⊎_elim, subst, arith}
use Rattle.std.specs.Prelude.{Bool, if◌then◌else◌, nat_lt, ◌||◌, max}
use Rattle.std.specs.List.{AllByRecursion as Every}
use Rattle.std.proofs.lemmas.Bool.{cases_eq}
use Rattle.std.proofs.lemmas.List.{append-nil}
use Rattle.hl_model.specs.declared.step.Step.{Step}
use Rattle.hl_model.specs.declared.step.Step.TheVariants.{Acquire, Refresh, Release, Allocate, Look, Write, CleanTake, CleanDone}
use Rattle.hl_model.specs.declared.view.View.{View}
use Rattle.hl_model.specs.Offsets.{tail}
use Rattle.hl_model.specs.Pages.{clean_of, next_to_clean}
use Rattle.hl_model.specs.Replies.{IsAccepted}
use Rattle.hl_model.specs.Settled.{safe_read_only}
use Rattle.hl_model.specs.Sizes.{Sizes}
use Rattle.hl_model.specs.Views.{slot_view}
use Rattle.hl_history.specs.declared.view.Entry.{Entry}
use Rattle.hl_history.specs.Lists.{entry, left_by, IsOf}
use Rattle.hl_words.specs.declared.view.RiderView.{RiderView}
use Rattle.hl_words.specs.States.{RiderState}
use Rattle.hl_words.specs.Views.{loaded}
use Rattle.hl_keeper.specs.Passes.{PassRecord, seen, store_fault, with_store, with_change, with_load, with_look, with_news, with_rider, cell_at}
use Rattle.hl_keeper.specs.Pages.{first_cell, loaded_all, zeroed}
use Rattle.hl_keeper.specs.Touches.{AreTouches, is_call}
use Rattle.hl_keeper.proofs.PassLaws.{store_lawful}
use Rattle.hl_keeper.proofs.TouchLaws.{touches_more, touches_rise}
use Rattle.hl_domain.specs.Domains.{with_entry}
use Rattle.hl_laws.proofs.BoundLaws.{tail-append}
use Rattle.hl_laws.proofs.LawProofs.{beginnings_are_accepted}
use Rattle.hl_images.specs.Entered.{is_touch, IsOneCall, newest_writes, IsWriteOf, AreEntered, HasZero, IsSwept, FreesSwept, LoadsWithin}
use Rattle.hl_images.specs.Kept.{RiderEnters, PassEnters, RidersStayEntered, PassesStayEntered}
use Rattle.hl_images.proofs.CellLaws.{cell_low, page_low}
use Rattle.hl_images.proofs.PlaceLaws.{every_place}
use Rattle.hl_images.proofs.SealedLaws.{pending_stays_above}
use Rattle.hl_images.proofs.WriterLaws.{newest_every, writes_both}

-- a step that is no touch writes nothing
pub no_write : (s : Step) (older : List Step) → is_touch s ≡ false → newest_writes (s ∷ []) older ≡ older
no_write (Write t a v) older h = absurd cc
no_write _ older h = refl

-- a pass's own step is no touch, and frees no page
pub call_is : (s : Step) → is_call s ≡ true → (is_touch s ≡ false) × (clean_of s ≡ None)
call_is (Refresh t) h = (refl, refl)
call_is (Release t) h = (refl, refl)
call_is (Allocate t n) h = (refl, refl)
call_is _ h = absurd cc

-- touches are touches
pub are_touches : (t : ℕ) (v : View) (ts : List Step) → AreTouches t v ts → Every (λ (s : Step). is_touch s ≡ true) ts
unfolding AreTouches
are_touches t v [] h = tt
are_touches t v (Look u r d ∷ ts) h = (refl, are_touches t (record { read_only = r; head = d; tail = v.tail }) ts h.1)
are_touches t v (Write u a x ∷ ts) h = (refl, are_touches t v ts h.1)
are_touches t v (_ ∷ ts) h = absurd h.0

-- a step that frees no page is no clean done
frees_none : (s : Step) (p : ℕ) → clean_of s ≡ None → s ∷ [] ≡ CleanDone p ∷ [] → ⊥
frees_none s p free is =
    let same : s ≡ CleanDone p = cc is in
    let no : None ≡ Some p = sym free ∙ ap clean_of same in
    cc no

-- nor are the touches of a pass and its step
call_frees_none : (ts : List Step) (s : Step) (p : ℕ) → is_call s ≡ true → ts ++ s ∷ [] ≡ CleanDone p ∷ [] → ⊥
call_frees_none [] s p own is = frees_none s p (call_is s own).1 is
call_frees_none (t ∷ []) s p own is = absurd cc
call_frees_none (t ∷ (u ∷ ts)) s p own is = absurd cc

-- what waits to be entered: a store at an address more, or with a step that writes nothing no more
pub more_waits : (a v : ℕ) (p : PassRecord) → newest_writes (p.touches ++ Write p.slot a v ∷ []) [] ≡ Write p.slot a v ∷ newest_writes p.touches []
more_waits a v p = writes_both p.touches (Write p.slot a v ∷ []) []

pub no_more_waits : (s : Step) (p : PassRecord) → is_call s ≡ true → newest_writes (p.touches ++ s ∷ []) [] ≡ newest_writes p.touches []
no_more_waits s p own = writes_both p.touches (s ∷ []) [] ∙ no_write s (newest_writes p.touches []) (call_is s own).0

pub still_waits : (s : Step) (p : PassRecord) → is_touch s ≡ false → newest_writes p.touches [] ++ newest_writes (s ∷ []) [] ≡ newest_writes p.touches []
still_waits s p touch = ap (λ (l : List Step). newest_writes p.touches [] ++ l) (no_write s [] touch) ∙ append-nil (newest_writes p.touches [])

-- none of that lies below what is sealed
pub waits_above : (sizes : Sizes) (whole : List Step) (p : PassRecord) → 0 < sizes.page_size → IsAccepted sizes whole → slot_view sizes p.slot whole ≡ Some p.held → AreTouches p.slot p.held p.touches
    → Every (λ (w : Step). (t a v : ℕ) → w ≡ Write t a v → safe_read_only whole ≤ a) (newest_writes p.touches [])
waits_above sizes whole p some ok view touches =
    newest_every (λ (w : Step). (t a v : ℕ) → w ≡ Write t a v → safe_read_only whole ≤ a) p.touches []
    (every_place (λ (w : Step). (t a v : ℕ) → w ≡ Write t a v → safe_read_only whole ≤ a) [] p.touches
    (λ f x r is t a v same. pending_stays_above sizes whole p.slot p.held f r t a v some ok view (subst (AreTouches p.slot p.held) (is ∙ ap (λ (z : Step). f ++ z ∷ r) same) touches))) tt

module _ (sizes : Sizes) where
  loads : (waiting : List Step) (calls : List Entry) (cell : ℕ) (words : List ℕ) (view : RiderView) → AreEntered sizes view.touches calls waiting → AreEntered sizes (loaded_all cell words view).touches calls waiting
  unfolding loaded_all
  loads waiting calls cell [] view h = h
  loads waiting calls cell (w ∷ words) view h = loads waiting calls (cell + 1) words (loaded cell w view) h

  zeros : (list : List Step) (older : List Entry) (page n : ℕ) (view : RiderView) → next_to_clean sizes list ≡ Some page → n ≤ sizes.page_size → AreEntered sizes view.touches (entry list (CleanTake ∷ []) ∷ older) []
      → AreEntered sizes (zeroed (first_cell sizes page) n view).touches (entry list (CleanTake ∷ []) ∷ older) []
  unfolding zeroed
  zeros list older page zero view next le h = h
  zeros list older page (suc n) view next le h =
      inr ((refl, page, list, older, refl, next, omega arith, omega (arith, le)), zeros list older page n view next (omega (arith, le)) h)

  loads_free : (calls : List Entry) (cell : ℕ) (words : List ℕ) (view : RiderView) → FreesSwept sizes view.touches calls → FreesSwept sizes (loaded_all cell words view).touches calls
  unfolding loaded_all
  loads_free calls cell [] view h = h
  loads_free calls cell (w ∷ words) view h = loads_free calls (cell + 1) words (loaded cell w view) h

  zeros_free : (calls : List Entry) (cell n : ℕ) (view : RiderView) → FreesSwept sizes view.touches calls → FreesSwept sizes (zeroed cell n view).touches calls
  unfolding zeroed
  zeros_free calls cell zero view h = h
  zeros_free calls cell (suc n) view h = zeros_free calls cell n view h

  -- each of the cells has its 0
  zero_at : (list : List Step) (older : List Entry) (page n : ℕ) (view : RiderView) → next_to_clean sizes list ≡ Some page → n ≤ sizes.page_size → (d : ℕ) → first_cell sizes page ≤ d → d < first_cell sizes page + n
      → HasZero sizes page d (zeroed (first_cell sizes page) n view).touches (entry list (CleanTake ∷ []) ∷ older)
  unfolding zeroed
  zero_at list older page zero view next le d low high = absurd (omega (arith, low, high))
  zero_at list older page (suc n) view next le d low high =
      ⊎_elim
      (λ (here : first_cell sizes page + n ≡ d). inl (here, ((refl, page, list, older, refl, next, low, omega (arith, high, le)), refl)))
      (λ (apart : first_cell sizes page + n ≢ d). inr (zero_at list older page n view next (omega (arith, le)) d low (omega (arith, high, apart))))
      (cases_eq (first_cell sizes page + n) d)

  loads_in : (cell : ℕ) (words : List ℕ) (view : RiderView) → (0 < sizes.page_size → 0 < sizes.frames → cell + length words ≤ sizes.frames * sizes.page_size) → LoadsWithin sizes view.touches → LoadsWithin sizes (loaded_all cell words view).touches
  unfolding loaded_all
  loads_in cell [] view room h = h
  loads_in cell (w ∷ words) view room h =
      loads_in (cell + 1) words (loaded cell w view) (λ page_some frames_some. omega (arith, room page_some frames_some))
      ((λ d v e page_some frames_some. let same : cell ≡ d = cc e in omega (arith, same, room page_some frames_some)), h)

  zeros_in : (cell n : ℕ) (view : RiderView) → LoadsWithin sizes view.touches → LoadsWithin sizes (zeroed cell n view).touches
  unfolding zeroed
  zeros_in cell zero view h = h
  zeros_in cell (suc n) view h = ((λ d v e page_some frames_some. absurd (cc e)), zeros_in cell n view h)

  pub riders_stay_entered : RidersStayEntered sizes
  riders_stay_entered = record {
    new = λ name. record { entered = refl; frees = tt; calls = tt; within = tt };
    loads = λ page words r long h. record {
      entered = loads [] r.calls (first_cell sizes page) words r.view h.entered;
      frees = loads_free r.calls (first_cell sizes page) words r.view h.frees;
      calls = h.calls;
      within = loads_in (first_cell sizes page) words r.view (λ page_some frames_some. omega (arith, long, page_low sizes page frames_some)) h.within;
    };
    told = λ past r h. record { entered = h.entered; frees = h.frees; calls = h.calls; within = ((λ d v e page_some frames_some. absurd (cc e)), h.within) };
    call = λ was now list s r touch free h. record {
      entered = subst (λ (l : List Step). AreEntered sizes r.view.touches r.calls l) (sym (no_write s [] touch)) h.entered;
      frees = ((λ p is. absurd (frees_none s p free is)), h.frees);
      calls = (inr ([], s, refl, tt, inl refl), h.calls);
      within = ((λ d v e page_some frames_some. absurd (cc e)), h.within);
    };
    refused = λ was now list r h. record { entered = h.entered; frees = ((λ p is. absurd (cc is)), h.frees); calls = (inl refl, h.calls); within = ((λ d v e page_some frames_some. absurd (cc e)), h.within) };
    sweeps = λ was now list page r next h.
        let taken = with_entry was now list (CleanTake ∷ []) r in
        let none : FreesSwept sizes taken.view.touches taken.calls = ((λ p is. absurd (cc is)), h.frees) in
        record {
          entered = zeros list r.calls page sizes.page_size taken.view next (omega arith) h.entered;
          frees = zeros_free taken.calls (first_cell sizes page) sizes.page_size taken.view none;
          calls = (inr ([], CleanTake, refl, tt, inl refl), h.calls);
          within = zeros_in (first_cell sizes page) sizes.page_size taken.view ((λ d v e page_some frames_some. absurd (cc e)), h.within);
        };
    swept = λ was now list page r next d low high. zero_at list r.calls page sizes.page_size (with_entry was now list (CleanTake ∷ []) r).view next (omega arith) d low high;
    frees = λ was now list page r swept h. record {
      entered = h.entered;
      frees = ((λ p is. let same : page ≡ p = cc is in subst (λ (q : ℕ). IsSwept sizes q r.view.touches r.calls) same swept), h.frees);
      calls = (inr ([], CleanDone page, refl, tt, inl refl), h.calls);
      within = ((λ d v e page_some frames_some. absurd (cc e)), h.within);
    };
    ends = λ whole r h. record { waiting = []; entered = h.entered; frees = h.frees; calls = h.calls; above = tt; within = h.within };
  }

  is_write : (a v : ℕ) (p : PassRecord) → store_fault p a ≡ None → PassEnters sizes p → IsWriteOf sizes (cell_at sizes a) v p.rider.calls (Write p.slot a v)
  is_write a v p fault h =
      let lawful = store_lawful p a v fault in
      (p.slot, a, refl, refl, h.newest, h.older, h.newest_is, omega (arith, lawful.2, ap (λ (x : ℕ). x) (touches_rise p.slot p.held p.touches h.touches).2, h.sees))

  -- a pass with the same view, whose rider made no other call
  same_calls : (p q : PassRecord) → PassEnters sizes p → AreEntered sizes q.rider.view.touches q.rider.calls (newest_writes q.touches []) → FreesSwept sizes q.rider.view.touches q.rider.calls → LoadsWithin sizes q.rider.view.touches → AreTouches q.slot q.held q.touches → q.rider.calls ≡ p.rider.calls
      → q.held ≡ p.held → PassEnters sizes q
  same_calls p q h entered frees within touches calls held = record {
    entered = entered;
    frees = frees;
    calls = subst (Every (λ (e : Entry). IsOneCall e.steps)) (sym calls) h.calls;
    within = within;
    touches = touches;
    newest = h.newest;
    older = h.older;
    newest_is = calls ∙ h.newest_is;
    sees = subst (λ (v : View). v.tail ≤ tail sizes (left_by h.newest)) (sym held) h.sees;
  }

  stores : (a v : ℕ) (p : PassRecord) → store_fault p a ≡ None → PassEnters sizes p → PassEnters sizes (with_store sizes a v p)
  unfolding with_store
  stores a v p fault h =
      same_calls p (with_store sizes a v p) h (inl (Write p.slot a v, newest_writes p.touches [], more_waits a v p, is_write a v p fault h, h.entered)) h.frees ((λ d v e page_some frames_some. absurd (cc e)), h.within)
      (touches_more p.slot p.held p.touches (Write p.slot a v) h.touches (store_lawful p a v fault)).0 refl refl

  changes : (a found v : ℕ) (p : PassRecord) → store_fault p a ≡ None → PassEnters sizes p → PassEnters sizes (with_change sizes a found v p)
  unfolding with_change
  changes a found v p fault h =
      same_calls p (with_change sizes a found v p) h (Write p.slot a v, newest_writes p.touches [], more_waits a v p, is_write a v p fault h, h.entered) h.frees ((λ d v e page_some frames_some. absurd (cc e)), h.within)
      (touches_more p.slot p.held p.touches (Write p.slot a v) h.touches (store_lawful p a v fault)).0 refl refl

  pass_loads : (a v : ℕ) (p : PassRecord) → PassEnters sizes p → PassEnters sizes (with_load sizes a v p)
  unfolding with_load
  pass_loads a v p h =
      same_calls p (with_load sizes a v p) h h.entered h.frees ((λ d w e page_some frames_some. let same : cell_at sizes a ≡ d = cc e in omega (arith, same, cell_low sizes a page_some frames_some)), h.within) h.touches refl refl

  news : (read_only head ended : ℕ) (p : PassRecord) → PassEnters sizes p → PassEnters sizes (with_news read_only head ended p)
  unfolding with_news
  news read_only head ended p h =
      same_calls p (with_news read_only head ended p) h h.entered h.frees ((λ d v e page_some frames_some. absurd (cc e)), ((λ d v e page_some frames_some. absurd (cc e)), ((λ d v e page_some frames_some. absurd (cc e)), h.within))) h.touches refl refl

  looks : (read_only head : ℕ) (p : PassRecord) → PassEnters sizes p → PassEnters sizes (with_look read_only head p)
  unfolding with_look
  looks read_only head p h = same_calls p (with_look read_only head p) h (by b).0 h.frees ((λ d v e page_some frames_some. absurd (cc e)), ((λ d v e page_some frames_some. absurd (cc e)), h.within)) (by b).1 refl refl
    where
      b : Bool
      b = nat_lt (seen p).read_only read_only || nat_lt (seen p).head head

      look : Step
      look = Look p.slot (max (seen p).read_only read_only) (max (seen p).head head)

      by : (b : Bool) → AreEntered sizes p.rider.view.touches p.rider.calls (newest_writes (p.touches ++ (if b then look ∷ [] else [])) []) × AreTouches p.slot p.held (p.touches ++ (if b then look ∷ [] else []))
      by true = (subst (λ (l : List Step). AreEntered sizes p.rider.view.touches p.rider.calls l) (sym (writes_both p.touches (look ∷ []) [])) h.entered, (touches_more p.slot p.held p.touches look h.touches (refl, omega arith, omega arith)).0)
      by false = (subst (λ (l : List Step). AreEntered sizes p.rider.view.touches p.rider.calls (newest_writes l [])) (sym (append-nil p.touches)) h.entered, subst (AreTouches p.slot p.held) (sym (append-nil p.touches)) h.touches)

  -- the touches of a pass and its step enter
  all_enter : (was now : ℕ) (list : List Step) (s : Step) (p : PassRecord) → is_call s ≡ true → PassEnters sizes p → RiderEnters sizes (with_entry was now list (p.touches ++ s ∷ []) p.rider)
  all_enter was now list s p own h =
      let all = are_touches p.slot p.held p.touches h.touches in
      record {
        entered = subst (λ (l : List Step). AreEntered sizes p.rider.view.touches p.rider.calls l) (sym (no_more_waits s p own)) h.entered;
        frees = ((λ q is. absurd (call_frees_none p.touches s q own is)), h.frees);
        calls = (inr (p.touches, s, refl, all, inr own), h.calls);
        within = ((λ d v e page_some frames_some. absurd (cc e)), h.within);
      }

  -- a call that met a list which begins with what the newest call left met no lower tail
  sees_on : (list : List Step) (p : PassRecord) → 0 < sizes.page_size → IsAccepted sizes list → IsOf list p.rider.calls → PassEnters sizes p → p.held.tail ≤ tail sizes list
  sees_on list p some ok of h =
      let b = (subst (Every (λ (e : Entry). (rest : List Step) × (list ≡ left_by e ++ rest))) h.newest_is of.begins).0 in
      let more = tail-append sizes (left_by h.newest) b.0 some (subst (IsAccepted sizes) b.1 ok) in
      subst (λ (l : List Step). p.held.tail ≤ tail sizes l) (sym b.1) (omega (arith, h.sees, more))

  -- a pass with another rider
  with_newest : (list steps : List Step) (p : PassRecord) (r : RiderState) (older : List Entry) → AreEntered sizes r.view.touches r.calls (newest_writes p.touches []) → FreesSwept sizes r.view.touches r.calls → Every (λ (e : Entry). IsOneCall e.steps) r.calls → LoadsWithin sizes r.view.touches → r.calls ≡ entry list steps ∷ older
      → AreTouches p.slot p.held p.touches → p.held.tail ≤ tail sizes (list ++ steps) → PassEnters sizes (with_rider r p)
  with_newest list steps p r older entered frees calls within is touches sees = record {
    entered = entered;
    frees = frees;
    calls = calls;
    within = within;
    touches = touches;
    newest = entry list steps;
    older = older;
    newest_is = is;
    sees = sees;
  }

  pub passes_stay_entered : PassesStayEntered sizes
  unfolding AreTouches
  passes_stay_entered = record {
    acquires = λ was now list t stamp slot r below h.
        let one = riders_stay_entered.call was now list (Acquire t) r refl refl h in
        record { entered = one.entered; frees = one.frees; calls = one.calls; within = one.within; touches = tt; newest = entry list (Acquire t ∷ []); older = r.calls; newest_is = refl; sees = below };
    stores = stores;
    changes = changes;
    loads = pass_loads;
    looks = looks;
    news = news;
    goes_on = λ was now list s epoch view p own below h.
        let all = all_enter was now list s p own h in
        record { entered = all.entered; frees = all.frees; calls = all.calls; within = all.within; touches = tt; newest = entry list (p.touches ++ s ∷ []); older = p.rider.calls; newest_is = refl; sees = below };
    call = λ was now list s p touch free some ok of h.
        let good = beginnings_are_accepted sizes list (s ∷ []) ok in
        with_newest list (s ∷ []) p (with_entry was now list (s ∷ []) p.rider) p.rider.calls
        (subst (λ (l : List Step). AreEntered sizes p.rider.view.touches p.rider.calls l) (sym (still_waits s p touch)) h.entered)
        ((λ q is. absurd (frees_none s q free is)), h.frees) (inr ([], s, refl, tt, inl refl), h.calls) ((λ d v e page_some frames_some. absurd (cc e)), h.within) refl h.touches (omega (arith, sees_on list p some good of h, tail-append sizes list (s ∷ []) some ok));
    refused = λ was now list p some ok of h.
        with_newest list [] p (with_entry was now list [] p.rider) p.rider.calls
        (subst (λ (l : List Step). AreEntered sizes p.rider.view.touches p.rider.calls l) (sym (append-nil (newest_writes p.touches []))) h.entered)
        ((λ q is. absurd (cc is)), h.frees) (inl refl, h.calls) ((λ d v e page_some frames_some. absurd (cc e)), h.within) refl h.touches (subst (λ (l : List Step). p.held.tail ≤ tail sizes l) (sym (append-nil list)) (sees_on list p some ok of h));
    releases = λ was now list p h. all_enter was now list (Release p.slot) p refl h;
    abandons = λ whole p some ok view h. record {
      waiting = newest_writes p.touches [];
      entered = h.entered;
      frees = h.frees;
      calls = h.calls;
      within = h.within;
      above = waits_above sizes whole p some ok view h.touches;
    };
  }
