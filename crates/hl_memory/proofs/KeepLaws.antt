-- The acts of riders stay what they are, by all that passes do.
use Rattle.std.proofs.Common.{◌≡◌, ℕ, ◌+◌, ◌-◌, ◌*◌, ◌/◌, ◌<◌, ◌≤◌, leb, ltb, eqb, true, false, List, [], ◌∷◌, ◌++◌, length, map, Some, None, refl, ap, sym, ◌∙◌, inl, inr, subst, arith}
use Rattle.std.specs.Prelude.{Bool, if◌then◌else◌, nat_lt, ◌||◌, ◌&&◌, max}
use Rattle.std.proofs.lemmas.Bool.{leb-false, ltb-false}
use Rattle.std.proofs.lemmas.List.{append-nil}
use Rattle.std.proofs.lemmas.Nat.{div-mul-add}
use Rattle.std.proofs.Math.Nat.{mod-eq_of_lt}
use Rattle.hl_model.specs.declared.fault.Fault.TheVariants.{Beyond, Evicted}
use Rattle.hl_model.specs.declared.step.Step.{Step}
use Rattle.hl_model.specs.declared.step.Step.TheVariants.{Acquire, Refresh, Release, Look, Write}
use Rattle.hl_model.specs.declared.view.View.{View}
use Rattle.hl_model.specs.Replies.{IsAccepted}
use Rattle.hl_model.specs.Settled.{closed}
use Rattle.hl_model.specs.Sizes.{Sizes}
use Rattle.hl_model.specs.Views.{slot_view}
use Rattle.hl_history.specs.declared.view.Entry.{Entry}
use Rattle.hl_words.specs.declared.view.Touch.{Touch}
use Rattle.hl_words.specs.declared.view.Touch.TheVariants.{Stored, Loaded, Changed, Called, Looked, Met}
use Rattle.hl_words.specs.declared.which.Which.TheVariants.{ReadOnly, Head, Ended, SafeReadOnly}
use Rattle.hl_keeper.specs.Passes.{PassRecord, seen, store_fault, load_fault, with_store, with_change, with_load, with_look, with_news, cell_at}
use Rattle.hl_keeper.specs.Calls.{unless_stranger, stamp_at, is_known, is_behind, stranger_fault, ahead_fault, touched_fault, call_fault, refresh_fault}
use Rattle.hl_keeper.specs.Pages.{first_cell}
use Rattle.hl_pass.specs.Stamps.{stamp_at as stamp_by}
use Rattle.hl_pass.proofs.KnownLaws.{and_parts, view_is}
use Rattle.hl_keeper.specs.Touches.{is_call}
use Rattle.hl_keeper.proofs.PassLaws.{store_lawful}
use Rattle.hl_keeper.proofs.TouchLaws.{touches_rise}
use Rattle.hl_pass.proofs.LookLaws.{viewed}
use Rattle.hl_pass.specs.Views.{beyond_fault, has_view}
use Rattle.hl_domain.specs.Domains.{with_entry}
use Rattle.hl_laws.proofs.BoundLaws.{closed-le-head, views_are_bounded}
use Rattle.hl_laws.proofs.NoFaultLaws.{later_fault, or_fault-none}
use Rattle.hl_laws.proofs.PageFacts.{head-le-flushed, flushed-le-safe_read_only}
use Rattle.hl_images.specs.Entered.{newest_writes, AreEntered, LoadsWithin}
use Rattle.hl_images.specs.Kept.{PassEnters}
use Rattle.hl_images.proofs.CellLaws.{cell_is, cell_of_place}
use Rattle.hl_images.proofs.KeptLaws.{passes_stay_entered, riders_stay_entered, more_waits, no_more_waits, still_waits, waits_above}
use Rattle.hl_images.proofs.WriterLaws.{writes_both}
use Rattle.hl_memory.specs.Acts.{in_cell, IsWriteAt, AreActs, AreActsOf}
use Rattle.hl_memory.specs.Memory.{IsOpen}
use Rattle.hl_memory.specs.Keeping.{call_act, PassActs, ActsAreKept, ActsStand, CallsMeetView}

-- a load without a fault is at an address that the view has
pub load_lawful : (p : PassRecord) (a : ℕ) → load_fault p a ≡ None → ((seen p).head ≤ a) × (a < (seen p).tail)
unfolding load_fault
load_lawful p a h =
    let outer = later_fault (ltb a (seen p).head) (Evicted (seen p).head) (beyond_fault (seen p) a) h in
    let inner = later_fault (leb (seen p).tail a) (Beyond (seen p).tail) None outer.1 in
    (ltb-false a (seen p).head outer.0, leb-false (seen p).tail a inner.0)

module _ (sizes : Sizes) where
  -- what a slot that is protected saw isn't closed
  pub pass_low : (list : List Step) (p : PassRecord) → 0 < sizes.page_size → IsAccepted sizes list → slot_view sizes p.slot list ≡ Some p.held → (closed list ≤ p.held.head) × (closed list ≤ p.held.read_only)
  pass_low list p some ok is =
      let v = viewed sizes p.slot list p.held is in
      let bounds = views_are_bounded sizes list p.slot ok v.0 in
      let head = ap (λ (w : View). w.head) v.1 in
      let read_only = ap (λ (w : View). w.read_only) v.1 in
      (omega (arith, bounds.1, head), omega (arith, bounds.0, read_only, closed-le-head sizes list ok, head-le-flushed sizes list ok, flushed-le-safe_read_only sizes list some ok))

  -- an address that a pass may load, and one that it may change
  open_load : (p : PassRecord) (a low : ℕ) → PassEnters sizes p → load_fault p a ≡ None → low ≤ p.held.head → IsOpen sizes a p.rider.calls low
  open_load p a low h fault below =
      let lawful = load_lawful p a fault in
      let rise = touches_rise p.slot p.held p.touches h.touches in
      (h.newest, h.older, h.newest_is, omega (arith, lawful.1, rise.2, h.sees), omega (arith, lawful.0, rise.1, below))

  open_change : (p : PassRecord) (a low : ℕ) → PassEnters sizes p → store_fault p a ≡ None → low ≤ p.held.read_only → IsOpen sizes a p.rider.calls low
  open_change p a low h fault below =
      let lawful = store_lawful p a 0 fault in
      let rise = touches_rise p.slot p.held p.touches h.touches in
      (h.newest, h.older, h.newest_is, omega (arith, lawful.2, rise.2, h.sees), omega (arith, lawful.1, rise.0, below))

  write_at : (a v : ℕ) (p : PassRecord) → store_fault p a ≡ None → PassEnters sizes p → IsWriteAt sizes a v p.rider.calls (Write p.slot a v)
  write_at a v p fault h = let o = open_change p a 0 h fault (omega arith) in (p.slot, refl, o.0, o.1, o.2, o.3)

  stores : (a v : ℕ) (p : PassRecord) (acts : List Touch) → store_fault p a ≡ None → PassActs sizes p acts → PassActs sizes (with_store sizes a v p) (Stored a v ∷ acts)
  unfolding with_store
  stores a v p acts fault h = record {
    enters = (passes_stay_entered sizes).stores a v p fault h.enters;
    touches = ap (λ (l : List Touch). Stored (cell_at sizes a) v ∷ l) h.touches;
    entered = inl (Write p.slot a v, newest_writes p.touches [], more_waits a v p, write_at a v p fault h.enters, h.entered);
    opens = h.opens;
  }

  changes : (a found v : ℕ) (p : PassRecord) (acts : List Touch) → store_fault p a ≡ None → PassActs sizes p acts → PassActs sizes (with_change sizes a found v p) (Changed a found v ∷ acts)
  unfolding with_change
  changes a found v p acts fault h = record {
    enters = (passes_stay_entered sizes).changes a found v p fault h.enters;
    touches = ap (λ (l : List Touch). Changed (cell_at sizes a) found v ∷ l) h.touches;
    entered = (Write p.slot a v, newest_writes p.touches [], more_waits a v p, write_at a v p fault h.enters, h.entered);
    opens = h.opens;
  }

  loads : (a v : ℕ) (p : PassRecord) (acts : List Touch) → load_fault p a ≡ None → PassActs sizes p acts → PassActs sizes (with_load sizes a v p) (Loaded a v ∷ acts)
  unfolding with_load
  loads a v p acts fault h = record {
    enters = (passes_stay_entered sizes).loads a v p h.enters;
    touches = ap (λ (l : List Touch). Loaded (cell_at sizes a) v ∷ l) h.touches;
    entered = h.entered;
    opens = λ low x y. (open_load p a low h.enters fault x, h.opens low x y);
  }

  compares : (a v : ℕ) (p : PassRecord) (acts : List Touch) → store_fault p a ≡ None → PassActs sizes p acts → PassActs sizes (with_load sizes a v p) (Loaded a v ∷ acts)
  unfolding with_load
  compares a v p acts fault h = record {
    enters = (passes_stay_entered sizes).loads a v p h.enters;
    touches = ap (λ (l : List Touch). Loaded (cell_at sizes a) v ∷ l) h.touches;
    entered = h.entered;
    opens = λ low x y. (open_change p a low h.enters fault y, h.opens low x y);
  }

  news : (read_only head ended : ℕ) (p : PassRecord) (acts : List Touch) → PassActs sizes p acts → PassActs sizes (with_news read_only head ended p) (Looked Ended ended ∷ Looked Head head ∷ Looked ReadOnly read_only ∷ acts)
  unfolding with_news
  news read_only head ended p acts h = record {
    enters = (passes_stay_entered sizes).news read_only head ended p h.enters;
    touches = ap (λ (l : List Touch). Looked Ended ended ∷ Looked Head head ∷ Looked ReadOnly read_only ∷ l) h.touches;
    entered = h.entered;
    opens = h.opens;
  }

  -- a look writes nothing
  looked_writes : (p : PassRecord) (look : Step) (b : Bool) → ((older : List Step) → newest_writes (look ∷ []) older ≡ older) → newest_writes (p.touches ++ (if b then look ∷ [] else [])) [] ≡ newest_writes p.touches []
  looked_writes p look true none = writes_both p.touches (look ∷ []) [] ∙ none (newest_writes p.touches [])
  looked_writes p look false none = ap (λ (l : List Step). newest_writes l []) (append-nil p.touches)

  looks : (read_only head : ℕ) (p : PassRecord) (acts : List Touch) → PassActs sizes p acts → PassActs sizes (with_look read_only head p) (Looked Head head ∷ Looked ReadOnly read_only ∷ acts)
  unfolding with_look
  looks read_only head p acts h =
      let look : Step = Look p.slot (max (seen p).read_only read_only) (max (seen p).head head) in
      let b : Bool = nat_lt (seen p).read_only read_only || nat_lt (seen p).head head in
      record {
        enters = (passes_stay_entered sizes).looks read_only head p h.enters;
        touches = ap (λ (l : List Touch). Looked Head head ∷ Looked ReadOnly read_only ∷ l) h.touches;
        entered = subst (λ (l : List Step). AreActs sizes acts p.rider.calls l) (sym (looked_writes p look b (λ older. refl))) h.entered;
        opens = h.opens;
      }

  -- the touches of a pass and its step enter
  all_entered : (was now : ℕ) (list : List Step) (s : Step) (p : PassRecord) (acts : List Touch) → is_call s ≡ true → PassActs sizes p acts
      → AreActs sizes (call_act was now list (p.touches ++ s ∷ []) ∷ acts) (with_entry was now list (p.touches ++ s ∷ []) p.rider).calls []
  all_entered was now list s p acts own h = subst (λ (l : List Step). AreActs sizes acts p.rider.calls l) (sym (no_more_waits s p own)) h.entered

  -- an abandoned pass at the end
  ended : (whole : List Step) (p : PassRecord) (acts : List Touch) → 0 < sizes.page_size → IsAccepted sizes whole → slot_view sizes p.slot whole ≡ Some p.held → PassActs sizes p acts → AreActsOf sizes whole p.rider acts
  ended whole p acts some ok view h = record {
    waiting = newest_writes p.touches [];
    touches = h.touches;
    entered = h.entered;
    frees = h.enters.frees;
    calls = h.enters.calls;
    above = waits_above sizes whole p some ok view h.enters.touches;
  }

  pub acts_are_kept : ActsAreKept sizes
  acts_are_kept = record {
    new = λ name. record { enters = (riders_stay_entered sizes).new name; touches = refl; entered = refl; opens = λ low. tt };
    told = λ past r acts h. record {
      enters = (riders_stay_entered sizes).told past r h.enters;
      touches = ap (λ (l : List Touch). Met past.name (length past.touches) ∷ l) h.touches;
      entered = h.entered;
      opens = h.opens;
    };
    rests = λ was now list r acts h. record {
      enters = (riders_stay_entered sizes).refused was now list r h.enters;
      touches = ap (λ (l : List Touch). call_act was now list [] ∷ l) h.touches;
      entered = h.entered;
      opens = λ low. inl (h.opens low);
    };
    acquires = λ was now list t stamp slot r acts below h. record {
      enters = (passes_stay_entered sizes).acquires was now list t stamp slot r below h.enters;
      touches = ap (λ (l : List Touch). call_act was now list (Acquire t ∷ []) ∷ l) h.touches;
      entered = h.entered;
      opens = λ low x y. inl (h.opens low);
    };
    stores = stores;
    changes = changes;
    loads = loads;
    compares = compares;
    looks = looks;
    news = news;
    safe_looks = λ x p acts h.
        let e = h.enters in
        record {
          enters = record { entered = e.entered; frees = e.frees; calls = e.calls; within = ((λ d v same page_some frames_some. absurd (cc same)), e.within); touches = e.touches; newest = e.newest; older = e.older; newest_is = e.newest_is; sees = e.sees };
          touches = ap (λ (l : List Touch). Looked SafeReadOnly x ∷ l) h.touches;
          entered = h.entered;
          opens = h.opens;
        };
    goes_on = λ was now list s epoch view p acts some own below ok is h.
        let low = pass_low list p some ok is in
        record {
          enters = (passes_stay_entered sizes).goes_on was now list s epoch view p own below h.enters;
          touches = ap (λ (l : List Touch). call_act was now list (p.touches ++ s ∷ []) ∷ l) h.touches;
          entered = all_entered was now list s p acts own h;
          opens = λ n x y. inr (h.opens (closed list) low.0 low.1);
        };
    call = λ was now list s p acts touch free some ok of h.
        record {
          enters = (passes_stay_entered sizes).call was now list s p touch free some ok of h.enters;
          touches = ap (λ (l : List Touch). call_act was now list (s ∷ []) ∷ l) h.touches;
          entered = subst (λ (l : List Step). AreActs sizes acts p.rider.calls l) (sym (still_waits s p touch)) h.entered;
          opens = λ low x y. inl (h.opens low x y);
        };
    refused = λ was now list p acts some ok of h. record {
      enters = (passes_stay_entered sizes).refused was now list p some ok of h.enters;
      touches = ap (λ (l : List Touch). call_act was now list [] ∷ l) h.touches;
      entered = subst (λ (l : List Step). AreActs sizes acts p.rider.calls l) (sym (append-nil (newest_writes p.touches []))) h.entered;
      opens = λ low x y. inl (h.opens low x y);
    };
    releases = λ was now list p acts some ok is h.
        let low = pass_low list p some ok is in
        record {
          enters = (passes_stay_entered sizes).releases was now list p h.enters;
          touches = ap (λ (l : List Touch). call_act was now list (p.touches ++ Release p.slot ∷ []) ∷ l) h.touches;
          entered = all_entered was now list (Release p.slot) p acts refl h;
          opens = λ n. inr (h.opens (closed list) low.0 low.1);
        };
    ends = λ whole r acts h. (
      record { waiting = []; touches = h.touches; entered = h.entered; frees = h.enters.frees; calls = h.enters.calls; above = tt },
      h.opens (closed whole),
    );
    abandons = λ whole p acts some ok view h.
        let low = pass_low whole p some ok view in
        (ended whole p acts some ok view h, h.opens (closed whole) low.0 low.1);
  }

-- a cell is that of its own number
cell_same : (sizes : Sizes) (d : ℕ) → 0 < sizes.page_size → 0 < sizes.frames → d < sizes.frames * sizes.page_size → cell_at sizes d ≡ d
cell_same sizes d page_some frames_some less = sym (cell_is sizes d page_some frames_some) ∙ mod-eq_of_lt less

module _ (sizes : Sizes) (page_some : 0 < sizes.page_size) (frames_some : 0 < sizes.frames) where
  abbrev pub Acts : List Touch → List Entry → List Step → Type 0
  Acts ts calls waiting = (acts : List Touch) × (map (in_cell sizes) acts ≡ ts) × AreActs sizes acts calls waiting

  pub acts_from : (ts : List Touch) (calls : List Entry) (waiting : List Step) → AreEntered sizes ts calls waiting → LoadsWithin sizes ts → Acts ts calls waiting
  acts_from [] calls waiting h all = ([], refl, h)
  acts_from (Stored d v ∷ before) calls waiting (inl w) all =
      let r = acts_from before calls w.1 w.4 all.1 in
      let o = w.3 in
      (Stored o.1 v ∷ r.0, ap (λ (z : ℕ). Stored z v ∷ map (in_cell sizes) r.0) o.3 ∙ ap (λ (l : List Touch). Stored d v ∷ l) r.1, inl (w.0, w.1, w.2, (o.0, o.2, o.4, o.5, o.6, o.7), r.2))
  acts_from (Stored d v ∷ before) calls waiting (inr z) all =
      let r = acts_from before calls waiting z.1 all.1 in
      let s = z.0 in
      let p = s.1 in
      let k = d - first_cell sizes p in
      let inside : k < sizes.page_size = omega (arith, s.6, s.7) in
      let here : first_cell sizes p + k ≡ d = omega (arith, s.6) in
      let page : (p * sizes.page_size + k) / sizes.page_size ≡ p = div-mul-add p sizes.page_size k inside in
      let same : Some p ≡ Some ((p * sizes.page_size + k) / sizes.page_size) = ap (λ (x : ℕ). Some x) (sym page) in (
        Stored (p * sizes.page_size + k) v ∷ r.0,
        ap (λ (x : ℕ). Stored x v ∷ map (in_cell sizes) r.0) (cell_of_place sizes p k inside ∙ here) ∙ ap (λ (l : List Touch). Stored d v ∷ l) r.1,
        inr ((s.0, s.2, s.3, s.4, s.5 ∙ same), r.2),
      )
  acts_from (Loaded d v ∷ before) calls waiting h all =
      let r = acts_from before calls waiting h all.1 in
      (Loaded d v ∷ r.0, ap (λ (z : ℕ). Loaded z v ∷ map (in_cell sizes) r.0) (cell_same sizes d page_some frames_some (all.0 d v refl page_some frames_some)) ∙ ap (λ (l : List Touch). Loaded d v ∷ l) r.1, r.2)
  acts_from (Changed d f v ∷ before) calls waiting w all =
      let r = acts_from before calls w.1 w.4 all.1 in
      let o = w.3 in
      (Changed o.1 f v ∷ r.0, ap (λ (z : ℕ). Changed z f v ∷ map (in_cell sizes) r.0) o.3 ∙ ap (λ (l : List Touch). Changed d f v ∷ l) r.1, (w.0, w.1, w.2, (o.0, o.2, o.4, o.5, o.6, o.7), r.2))
  acts_from (Called met left ∷ before) [] waiting h all = absurd h
  acts_from (Called met left ∷ before) (call ∷ calls) waiting h all =
      let r = acts_from before calls (waiting ++ newest_writes call.steps []) h all.1 in
      (Called met left ∷ r.0, ap (λ (l : List Touch). Called met left ∷ l) r.1, r.2)
  acts_from (t ∷ before) calls waiting h all =
      let r = acts_from before calls waiting h all.1 in
      (t ∷ r.0, ap (λ (l : List Touch). t ∷ l) r.1, r.2)

pub acts_stand : ActsStand
acts_stand sizes whole r page_some frames_some h =
    let a = acts_from sizes page_some frames_some r.view.touches r.calls h.waiting h.entered h.within in
    (a.0, record { waiting = h.waiting; touches = a.1; entered = a.2; frees = h.frees; calls = h.calls; above = h.above })

-- a test that found no stranger passed
not_strange : (b : Bool) (s : ℕ) → unless_stranger b s ≡ None → b ≡ true
not_strange true s h = refl
not_strange false s h = absurd (cc h)

pub calls_meet_view : (F : Type 0) → CallsMeetView F
unfolding call_fault refresh_fault stranger_fault ahead_fault is_known
calls_meet_view F keeper A p s (inl free) =
    let known = not_strange (is_known keeper A p) (stamp_at keeper A p.slot) (or_fault-none (stranger_fault keeper A p) (touched_fault keeper A p s) free).0 in
    view_is (slot_view keeper.core.sizes p.slot A) p.held (and_parts (has_view (slot_view keeper.core.sizes p.slot A) p.held) (eqb (stamp_by keeper.core.sizes keeper.stamps A p.slot) p.stamp) known).0
calls_meet_view F keeper A p s (inr free) =
    let both = not_strange (is_known keeper A p && is_behind A p) (stamp_at keeper A p.slot) (or_fault-none (ahead_fault keeper A p) (touched_fault keeper A p (Refresh p.slot)) free).0 in
    let known = (and_parts (is_known keeper A p) (is_behind A p) both).0 in
    view_is (slot_view keeper.core.sizes p.slot A) p.held (and_parts (has_view (slot_view keeper.core.sizes p.slot A) p.held) (eqb (stamp_by keeper.core.sizes keeper.stamps A p.slot) p.stamp) known).0
