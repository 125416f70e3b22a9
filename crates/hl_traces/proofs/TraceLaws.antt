-- The trace of a rider has each act of a session, and no other.
use Rattle.std.proofs.Common.{◌≡◌, ℕ, ◌+◌, ◌-◌, ◌*◌, ◌/◌, ◌%◌, ◌<◌, ◌≤◌, ◌||◌, Bool, true, false, List, [], ◌∷◌, ◌++◌, length, Some, None, refl, ap, sym, ◌∙◌, ⊎_elim, subst, arith, append_assoc}
use Rattle.std.specs.Prelude.{cond, if◌then◌else◌}
use Rattle.std.specs.List.{AllByRecursion as Every, list_any}
use Rattle.std.proofs.lemmas.Bool.{cases_lt, eq-eqb, or_right}
use Rattle.std.proofs.lemmas.List.{append-nil}
use Rattle.std.proofs.lemmas.Nat.{div-add-mod', div-mul-add}
use Rattle.std.proofs.Math.Nat.{add-mod_right, add-mul-div_right, lt-div-mul-add}
use Rattle.hl_model.specs.declared.step.Step.{Step}
use Rattle.hl_model.specs.declared.step.Step.TheVariants.{Acquire, Refresh, Release, Allocate, Look, Write}
use Rattle.hl_model.specs.declared.view.View.{View}
use Rattle.hl_model.specs.Actions.{is_done}
use Rattle.hl_model.specs.Epochs.{enters, leaves, is_protected}
use Rattle.hl_model.specs.Offsets.{tail}
use Rattle.hl_model.specs.Pages.{clean_of}
use Rattle.hl_model.specs.Replies.{IsAccepted}
use Rattle.hl_model.specs.Settled.{closes, closed}
use Rattle.hl_model.specs.Sizes.{Sizes}
use Rattle.hl_model.specs.Views.{slot_view}
use Rattle.hl_laws.proofs.AcceptedLaws.{IsAccepted-front}
use Rattle.hl_laws.proofs.BoundLaws.{closed-le-head, views_are_bounded}
use Rattle.hl_laws.proofs.PageFacts.{freed_closed, head-le-flushed, flushed-le-safe_read_only}
use Rattle.hl_laws.proofs.SettledLaws.{done_greatest-quiet}
use Rattle.hl_laws.proofs.ViewLaws.{is_protected-push}
use Rattle.hl_laws.proofs.WordLaws.{seen_tail-le}
use Rattle.hl_history.specs.Lists.{IsOf}
use Rattle.hl_words.specs.declared.view.Touch.TheVariants.{Stored as StoredIn, Loaded as LoadedFrom, Changed as ChangedIn}
use Rattle.hl_words.specs.declared.which.Which.TheVariants.{SafeReadOnly}
use Rattle.hl_words.specs.States.{RiderState, new_rider, with_view}
use Rattle.hl_words.specs.Views.{with_loaded}
use Rattle.hl_keeper.specs.Calls.{slot_after}
use Rattle.hl_keeper.specs.Passes.{PassRecord, cell_at, seen, store_fault, load_fault, with_store, with_change, with_load, with_look, with_news, with_rider, new_pass}
use Rattle.hl_keeper.specs.Touches.{is_call}
use Rattle.hl_keeper.proofs.PassLaws.{store_lawful}
use Rattle.hl_keeper.proofs.TouchLaws.{touches_rise}
use Rattle.hl_domain.specs.Domains.{with_entry, with_held}
use Rattle.hl_images.specs.Entered.{is_touch}
use Rattle.hl_images.proofs.CellLaws.{cell_is}
use Rattle.hl_images.proofs.KeptLaws.{are_touches}
use Rattle.hl_traces.specs.declared.act.Act.{Act}
use Rattle.hl_traces.specs.declared.act.Act.TheVariants.{Stored, Loaded, Changed, Met}
use Rattle.hl_memory.specs.Acts.{is_of_pages, NoneOfPages}
use Rattle.hl_memory.specs.Keeping.{PassActs}
use Rattle.hl_traces.specs.Traces.{moves_slot, tail_met, address_of, by_address, placed_by, places, trace, RiderTraces, PassTraces, RiderDoes, PassDoes}
use Rattle.hl_memory.proofs.KeepLaws.{load_lawful, pass_low, acts_are_kept}
use Rattle.hl_memory.proofs.PageLaws.{freed_below}

-- a step that moves a slot behind some others does so among them all
moves_last : (xs : List Step) (s : Step) → moves_slot s ≡ true → list_any moves_slot (xs ++ s ∷ []) ≡ true
moves_last [] s moves = ap (λ (b : Bool). b || false) moves
moves_last (x ∷ xs) s moves = or_right (moves_slot x) (list_any moves_slot (xs ++ s ∷ [])) (moves_last xs s moves)

-- touches of a pass place nothing, end no action, and neither flush nor clean a page
touch_is : (sizes : Sizes) (A : List Step) (s : Step) → is_touch s ≡ true → (placed_by sizes A s ≡ []) × (is_done s ≡ false) × (is_of_pages s ≡ false)
touch_is sizes A (Look t r h) e = (refl, refl, refl)
touch_is sizes A (Write t a v) e = (refl, refl, refl)
touch_is sizes A _ e = absurd (cc e)

-- nor does a step of a pass's own slot
own_is : (s : Step) → is_call s ≡ true → (is_done s ≡ false) × (is_of_pages s ≡ false)
own_is (Refresh t) e = (refl, refl)
own_is (Release t) e = (refl, refl)
own_is (Allocate t n) e = (refl, refl)
own_is _ e = absurd (cc e)

places_last : (sizes : Sizes) (A xs : List Step) (s : Step) → Every (λ (t : Step). is_touch t ≡ true) xs → places sizes A (xs ++ s ∷ []) ≡ placed_by sizes (A ++ xs) s
places_last sizes A [] s all = ap (λ (l : List Step). placed_by sizes l s) (sym (append-nil A))
places_last sizes A (x ∷ xs) s all =
    ap (λ (l : List Act). l ++ placed_by sizes A x) (places_last sizes (A ++ x ∷ []) xs s all.1)
    ∙ ap (λ (l : List Act). placed_by sizes ((A ++ x ∷ []) ++ xs) s ++ l) (touch_is sizes A x all.0).0
    ∙ append-nil (placed_by sizes ((A ++ x ∷ []) ++ xs) s)
    ∙ ap (λ (l : List Step). placed_by sizes l s) (append_assoc A (x ∷ []) xs)

-- nor does a step that moves no slot
quiet_places : (sizes : Sizes) (A : List Step) (s : Step) → moves_slot s ≡ false → placed_by sizes A s ≡ []
quiet_places sizes A (Allocate t n) e = absurd (cc e)
quiet_places sizes A _ e = refl

none_of_pages : (sizes : Sizes) (xs : List Step) (s : Step) → Every (λ (t : Step). is_touch t ≡ true) xs → is_of_pages s ≡ false → list_any is_of_pages (xs ++ s ∷ []) ≡ false
none_of_pages sizes [] s all last = ap (λ (b : Bool). b || false) last
none_of_pages sizes (x ∷ xs) s all last = ap (λ (b : Bool). b || list_any is_of_pages (xs ++ s ∷ [])) (touch_is sizes [] x all.0).2 ∙ none_of_pages sizes xs s all.1 last

module _ (sizes : Sizes) where
  -- steps that end no action close nothing
  closed_stays : (A xs : List Step) → IsAccepted sizes (A ++ xs) → Every (λ (s : Step). is_done s ≡ false) xs → closed (A ++ xs) ≡ closed A
  closed_stays A [] ok all = ap closed (append-nil A)
  closed_stays A (s ∷ xs) ok all =
      let parts : A ++ s ∷ xs ≡ (A ++ s ∷ []) ++ xs = sym (append_assoc A (s ∷ []) xs) in
      let ok2 : IsAccepted sizes ((A ++ s ∷ []) ++ xs) = subst (IsAccepted sizes) parts ok in
      ap closed parts ∙ closed_stays (A ++ s ∷ []) xs ok2 all.1 ∙ done_greatest-quiet sizes closes A s (IsAccepted-front sizes A (s ∷ xs) ok) all.0

  -- so it is with the touches of a pass and its step
  none_end : (xs : List Step) (s : Step) → Every (λ (t : Step). is_touch t ≡ true) xs → is_done s ≡ false → Every (λ (t : Step). is_done t ≡ false) (xs ++ s ∷ [])
  none_end [] s all last = (last, tt)
  none_end (x ∷ xs) s all last = ((touch_is sizes [] x all.0).1, none_end xs s all.1 last)

  module _ (page_some : 0 < sizes.page_size) (frames_some : 0 < sizes.frames) where
    -- an address not a round below an end is the newest of its cell there
    address_found : (a end : ℕ) → a < end → end ≤ a + sizes.frames * sizes.page_size → address_of sizes (cell_at sizes a) end ≡ a
    address_found a end above near =
        let round = sizes.frames * sizes.page_size in
        let is : a / round * round + cell_at sizes a ≡ a = ap (λ (x : ℕ). a / round * round + x) (sym (cell_is sizes a page_some frames_some)) ∙ div-add-mod' a round in
        let rest = end - 1 - a in
        let parts : end - 1 - cell_at sizes a ≡ a / round * round + rest = omega (arith, is, above) in
        ap (λ (x : ℕ). x / round * round + cell_at sizes a) parts ∙ ap (λ (x : ℕ). x * round + cell_at sizes a) (div-mul-add (a / round) round rest (omega (arith, above, near))) ∙ is

    -- no address that isn't closed lies a round below the tail
    near_tail : (A : List Step) → IsAccepted sizes A → (a : ℕ) → closed A ≤ a → tail sizes A ≤ a + sizes.frames * sizes.page_size
    near_tail A ok a low =
        let p = a / sizes.page_size in
        let x = a + sizes.frames * sizes.page_size in
        let page : x / sizes.page_size ≡ p + sizes.frames = add-mul-div_right a sizes.frames page_some in
        let frame : x / sizes.page_size % sizes.frames ≡ p % sizes.frames = ap (λ (z : ℕ). z % sizes.frames) page ∙ add-mod_right p sizes.frames in
        ⊎_elim
        (λ (far : x < tail sizes A).
        let freed = freed_below sizes A page_some frames_some ok x A ([], sym (append-nil A)) far p (omega (arith, page, frames_some)) (sym frame) in
        let gone = freed_closed sizes A p page_some ok freed in
        absurd (omega (arith, gone, lt-div-mul-add {a = a} page_some, low)))
        (λ (near : tail sizes A ≤ x). near)
        (cases_lt x (tail sizes A))

    -- so an address that a pass may touch is the newest of its cell
    found : (a : ℕ) (p : PassRecord) → PassTraces sizes p → (list : List Step) → tail_met sizes p.rider.calls ≡ tail sizes list → IsAccepted sizes list → closed list ≤ a → a < tail sizes list → address_of sizes (cell_at sizes a) (tail_met sizes p.rider.calls) ≡ a
    found a p h list met ok low high = ap (address_of sizes (cell_at sizes a)) met ∙ address_found a (tail sizes list) high (near_tail list ok a low)

  -- an address that a pass may store at, and one that it may load
  store_found : (a : ℕ) (p : PassRecord) → store_fault p a ≡ None → PassTraces sizes p → address_of sizes (cell_at sizes a) (tail_met sizes p.rider.calls) ≡ a
  store_found a p fault h =
      let lawful = store_lawful p a 0 fault in
      let rise = touches_rise p.slot p.held p.touches h.acts.enters.touches in
      found h.page_some h.frames_some a p h h.list h.met h.accepted (omega (arith, lawful.1, rise.0, h.read_only)) (omega (arith, lawful.2, rise.2, h.sees))

  load_found : (a : ℕ) (p : PassRecord) → load_fault p a ≡ None → PassTraces sizes p → address_of sizes (cell_at sizes a) (tail_met sizes p.rider.calls) ≡ a
  load_found a p fault h =
      let lawful = load_lawful p a fault in
      let rise = touches_rise p.slot p.held p.touches h.acts.enters.touches in
      found h.page_some h.frames_some a p h h.list h.met h.accepted (omega (arith, lawful.0, rise.1, h.head)) (omega (arith, lawful.1, rise.2, h.sees))

  -- a new rider did nothing
  pub new_traces : (name : ℕ) → RiderTraces sizes (new_rider name)
  new_traces name = record { acts = (acts_are_kept sizes).new name; pages = tt }

  -- a call of a rider without a pass that made no step
  pub rests : (was now : ℕ) (list : List Step) (r : RiderState) → RiderTraces sizes r → RiderDoes sizes (Met (length list + 0) ∷ []) r (with_entry was now list [] r)
  rests was now list r h = (record { acts = (acts_are_kept sizes).rests was now list r (by_address sizes r.view.touches r.calls) h.acts; pages = (refl, h.pages) }, refl)

  -- a pass that a rider acquired
  pub acquires : (was now : ℕ) (list : List Step) (t stamp : ℕ) (r : RiderState) → 0 < sizes.page_size → 0 < sizes.frames → IsAccepted sizes (list ++ Acquire t ∷ []) → RiderTraces sizes r
      → PassDoes sizes (Met (length list + 1) ∷ []) r (new_pass t stamp (slot_after sizes t (list ++ Acquire t ∷ [])) (with_entry was now list (Acquire t ∷ []) r))
  acquires was now list t stamp r page_some frames_some ok h =
      let A = list ++ Acquire t ∷ [] in
      let slot = slot_after sizes t A in
      let least = seen_tail-le sizes t A page_some in
      let protected : is_protected t A ≡ true = is_protected-push t list (Acquire t) ∙ own t in
      let bounds = views_are_bounded sizes A t ok protected in (
        record {
          acts = (acts_are_kept sizes).acquires was now list t stamp slot r (by_address sizes r.view.touches r.calls) least h.acts;
          pages = (refl, h.pages);
          page_some = page_some;
          frames_some = frames_some;
          list = A;
          accepted = ok;
          met = refl;
          sees = least;
          head = bounds.1;
          read_only = omega (arith, bounds.0, closed-le-head sizes A ok, head-le-flushed sizes A ok, flushed-le-safe_read_only sizes A page_some ok);
        },
        refl,
      )
    where
      own : (t : ℕ) → cond (enters t (Acquire t)) true (cond (leaves t (Acquire t)) false (is_protected t list)) ≡ true
      own t = ap (λ (b : Bool). cond b true (cond (leaves t (Acquire t)) false (is_protected t list))) (eq-eqb t t refl)

  -- a pass with the same view, whose rider's slot met no other list
  module _ (p q : PassRecord) (h : PassTraces sizes p) (held : q.held ≡ p.held) (met : tail_met sizes q.rider.calls ≡ tail_met sizes p.rider.calls) where
    traced : PassActs sizes q (by_address sizes q.rider.view.touches q.rider.calls) → NoneOfPages q.rider.calls → PassTraces sizes q
    traced acts pages = record {
      acts = acts;
      pages = pages;
      page_some = h.page_some;
      frames_some = h.frames_some;
      list = h.list;
      accepted = h.accepted;
      met = met ∙ h.met;
      sees = omega (arith, h.sees, ap (λ (v : View). v.tail) held);
      head = omega (arith, h.head, ap (λ (v : View). v.head) held);
      read_only = omega (arith, h.read_only, ap (λ (v : View). v.read_only) held);
    }

  pub stores : (a v : ℕ) (p : PassRecord) → store_fault p a ≡ None → PassTraces sizes p → PassDoes sizes (Stored a v ∷ []) p.rider (with_store sizes a v p)
  unfolding with_store
  stores a v p fault h =
      let here = store_found a p fault h in
      let acts = by_address sizes p.rider.view.touches p.rider.calls in
      (traced p (with_store sizes a v p) h refl refl (subst (λ (x : ℕ). PassActs sizes (with_store sizes a v p) (StoredIn x v ∷ acts)) (sym here) ((acts_are_kept sizes).stores a v p acts fault h.acts)) h.pages, ap (λ (x : ℕ). Stored x v ∷ trace sizes p.rider) here)

  pub changes : (a found v : ℕ) (p : PassRecord) → store_fault p a ≡ None → PassTraces sizes p → PassDoes sizes (Changed a found v ∷ []) p.rider (with_change sizes a found v p)
  unfolding with_change
  changes a found v p fault h =
      let here = store_found a p fault h in
      let acts = by_address sizes p.rider.view.touches p.rider.calls in
      (traced p (with_change sizes a found v p) h refl refl (subst (λ (x : ℕ). PassActs sizes (with_change sizes a found v p) (ChangedIn x found v ∷ acts)) (sym here) ((acts_are_kept sizes).changes a found v p acts fault h.acts)) h.pages, ap (λ (x : ℕ). Changed x found v ∷ trace sizes p.rider) here)

  -- a load at an address that is found
  loaded : (a v : ℕ) (p : PassRecord) → address_of sizes (cell_at sizes a) (tail_met sizes p.rider.calls) ≡ a → PassTraces sizes p → PassActs sizes (with_load sizes a v p) (LoadedFrom a v ∷ by_address sizes p.rider.view.touches p.rider.calls) → PassDoes sizes (Loaded a v ∷ []) p.rider (with_load sizes a v p)
  unfolding with_load
  loaded a v p here h are =
      let acts = by_address sizes p.rider.view.touches p.rider.calls in
      (traced p (with_load sizes a v p) h refl refl (subst (λ (x : ℕ). PassActs sizes (with_load sizes a v p) (LoadedFrom x v ∷ acts)) (sym here) are) h.pages, ap (λ (x : ℕ). Loaded x v ∷ trace sizes p.rider) here)

  pub loads : (a v : ℕ) (p : PassRecord) → load_fault p a ≡ None → PassTraces sizes p → PassDoes sizes (Loaded a v ∷ []) p.rider (with_load sizes a v p)
  loads a v p fault h = loaded a v p (load_found a p fault h) h ((acts_are_kept sizes).loads a v p (by_address sizes p.rider.view.touches p.rider.calls) fault h.acts)

  -- a compare and exchange that found another value
  pub compares : (a v : ℕ) (p : PassRecord) → store_fault p a ≡ None → PassTraces sizes p → PassDoes sizes (Loaded a v ∷ []) p.rider (with_load sizes a v p)
  compares a v p fault h = loaded a v p (store_found a p fault h) h ((acts_are_kept sizes).compares a v p (by_address sizes p.rider.view.touches p.rider.calls) fault h.acts)

  -- looks are no acts
  pub looks : (read_only head : ℕ) (p : PassRecord) → PassTraces sizes p → PassDoes sizes [] p.rider (with_look read_only head p)
  unfolding with_look
  looks read_only head p h = (traced p (with_look read_only head p) h refl refl ((acts_are_kept sizes).looks read_only head p (by_address sizes p.rider.view.touches p.rider.calls) h.acts) h.pages, refl)

  pub news : (read_only head ended : ℕ) (p : PassRecord) → PassTraces sizes p → PassDoes sizes [] p.rider (with_news read_only head ended p)
  unfolding with_news
  news read_only head ended p h = (traced p (with_news read_only head ended p) h refl refl ((acts_are_kept sizes).news read_only head ended p (by_address sizes p.rider.view.touches p.rider.calls) h.acts) h.pages, refl)

  pub safe_looks : (x : ℕ) (p : PassRecord) → PassTraces sizes p → PassDoes sizes [] p.rider (with_rider (with_view (with_loaded SafeReadOnly x p.rider.view) p.rider) p)
  safe_looks x p h = (traced p _ h refl refl ((acts_are_kept sizes).safe_looks x p (by_address sizes p.rider.view.touches p.rider.calls) h.acts) h.pages, refl)

  -- a refresh or an allocation, after which the pass sees no offset below those that it saw
  pub goes_on : (was now : ℕ) (list : List Step) (s : Step) (epoch : ℕ) (view : View) (p : PassRecord) → is_call s ≡ true → moves_slot s ≡ true → view.tail ≤ tail sizes (list ++ (p.touches ++ s ∷ [])) → IsAccepted sizes list → IsAccepted sizes (list ++ (p.touches ++ s ∷ []))
      → slot_view sizes p.slot list ≡ Some p.held → (seen p).head ≤ view.head → (seen p).read_only ≤ view.read_only → PassTraces sizes p
      → PassDoes sizes (placed_by sizes (list ++ p.touches) s ++ Met (length list + length (p.touches ++ s ∷ [])) ∷ []) p.rider (with_held epoch view (with_rider (with_entry was now list (p.touches ++ s ∷ []) p.rider) p))
  goes_on was now list s epoch view p own moves below ok after is up_head up_read_only h =
      let steps = p.touches ++ s ∷ [] in
      let low = pass_low sizes list p h.page_some ok is in
      let all = are_touches p.slot p.held p.touches h.acts.enters.touches in
      let rise = touches_rise p.slot p.held p.touches h.acts.enters.touches in
      let up_one : p.held.read_only ≤ (seen p).read_only = rise.0 in
      let up_two : p.held.head ≤ (seen p).head = rise.1 in
      let same = closed_stays list steps after (none_end p.touches s all ((own_is s own).0)) in (
        record {
          acts = (acts_are_kept sizes).goes_on was now list s epoch view p (by_address sizes p.rider.view.touches p.rider.calls) h.page_some own below ok is h.acts;
          pages = (none_of_pages sizes p.touches s all ((own_is s own).1), h.pages);
          page_some = h.page_some;
          frames_some = h.frames_some;
          list = list ++ steps;
          accepted = after;
          met = ap (λ (b : Bool). if b then tail sizes (list ++ steps) else tail_met sizes p.rider.calls) (moves_last p.touches s moves);
          sees = below;
          head = omega (arith, same, low.0, up_two, up_head);
          read_only = omega (arith, same, low.1, up_one, up_read_only);
        },
        ap (λ (l : List Act). (l ++ Met (length list + length steps) ∷ []) ++ trace sizes p.rider) (places_last sizes list p.touches s all),
      )

  -- a call of the pass's rider that makes one step, while touches of the pass wait
  pub call : (was now : ℕ) (list : List Step) (s : Step) (p : PassRecord) → is_touch s ≡ false → clean_of s ≡ None → moves_slot s ≡ false → is_of_pages s ≡ false → IsAccepted sizes (list ++ s ∷ []) → IsOf list p.rider.calls → PassTraces sizes p
      → PassDoes sizes (Met (length list + 1) ∷ []) p.rider (with_rider (with_entry was now list (s ∷ []) p.rider) p)
  call was now list s p touch free stays uncleaned ok of h = (
    traced p (with_rider (with_entry was now list (s ∷ []) p.rider) p) h refl (ap (λ (b : Bool). if b || false then tail sizes (list ++ s ∷ []) else tail_met sizes p.rider.calls) stays)
        ((acts_are_kept sizes).call was now list s p (by_address sizes p.rider.view.touches p.rider.calls) touch free h.page_some ok of h.acts) (ap (λ (b : Bool). b || false) uncleaned, h.pages),
    ap (λ (l : List Act). (l ++ Met (length list + 1) ∷ []) ++ trace sizes p.rider) (quiet_places sizes list s stays),
  )

  -- a call that makes none
  pub refused : (was now : ℕ) (list : List Step) (p : PassRecord) → IsAccepted sizes list → IsOf list p.rider.calls → PassTraces sizes p
      → PassDoes sizes (Met (length list + 0) ∷ []) p.rider (with_rider (with_entry was now list [] p.rider) p)
  refused was now list p ok of h = (
    traced p (with_rider (with_entry was now list [] p.rider) p) h refl refl ((acts_are_kept sizes).refused was now list p (by_address sizes p.rider.view.touches p.rider.calls) h.page_some ok of h.acts) (refl, h.pages),
    refl,
  )

  -- the end of a pass
  pub releases : (was now : ℕ) (list : List Step) (p : PassRecord) → IsAccepted sizes list → slot_view sizes p.slot list ≡ Some p.held → PassTraces sizes p
      → RiderDoes sizes (Met (length list + length (p.touches ++ Release p.slot ∷ [])) ∷ []) p.rider (with_entry was now list (p.touches ++ Release p.slot ∷ []) p.rider)
  releases was now list p ok is h =
      let steps = p.touches ++ Release p.slot ∷ [] in
      let all = are_touches p.slot p.held p.touches h.acts.enters.touches in (
        record {
          acts = (acts_are_kept sizes).releases was now list p (by_address sizes p.rider.view.touches p.rider.calls) h.page_some ok is h.acts;
          pages = (none_of_pages sizes p.touches (Release p.slot) all refl, h.pages);
        },
        ap (λ (l : List Act). (l ++ Met (length list + length steps) ∷ []) ++ trace sizes p.rider) (places_last sizes list p.touches (Release p.slot) all),
      )
