-- What all threads did is one trace, and the words and the images are its memory.
use Rattle.std.proofs.Common.{◌≡◌, ◌≤◌, ℕ, zero, suc, ◌+◌, ◌*◌, ◌<◌, ◌⊎◌, Bool, true, false, List, [], ◌∷◌, ◌++◌, length, map, refl, ap, sym, ◌∙◌, ⊎_elim, subst, arith, append_assoc}
use Rattle.std.specs.Prelude.{Option, Some, None, slice_get}
use Rattle.std.specs.List.{AllByRecursion as Every, list_any, range_with_len}
use Rattle.std.proofs.lemmas.List.{append-nil}
use Rattle.std.proofs.lemmas.Option.{slice_get_past, slice_get_within}
use Rattle.hl_model.specs.declared.step.Step.{Step}
use Rattle.hl_model.specs.declared.step.Step.TheVariants.{Write}
use Rattle.hl_model.specs.Offsets.{tail}
use Rattle.hl_model.specs.Settled.{closed}
use Rattle.hl_model.specs.Sizes.{Sizes}
use Rattle.hl_history.specs.declared.view.Entry.{Entry}
use Rattle.hl_history.specs.Lists.{Begins, left_by}
use Rattle.hl_words.specs.declared.view.Extent.{Extent}
use Rattle.hl_words.specs.declared.view.RiderView.{RiderView}
use Rattle.hl_words.specs.declared.view.Touch.{Touch}
use Rattle.hl_words.specs.declared.view.Touch.TheVariants.{Loaded, Changed}
use Rattle.hl_words.specs.Rule.{TouchBy, by_rider, held, last_called, touches_of, Finds, IsSerial}
use Rattle.hl_words.specs.States.{RiderState, AreTied}
use Rattle.hl_words.proofs.Cut.{every_at, every_from}
use Rattle.hl_words.proofs.Orders.{own_more}
use Rattle.hl_words.proofs.PastProofs.{serial_end, touches_both}
use Rattle.hl_keeper.specs.Endings.{EndingState}
use Rattle.hl_domain.specs.Domains.{IsEnding}
use Rattle.hl_images.specs.Entered.{newest_writes}
use Rattle.hl_images.specs.Flushes.{HasFlushed}
use Rattle.hl_images.proofs.ImageLaws.{flushed_by}
use Rattle.hl_images.proofs.PlaceLaws.{every_both}
use Rattle.hl_images.proofs.WriterLaws.{writes_both}
use Rattle.hl_memory.specs.Acts.{is_of_pages, in_cell, in_cells, IsPut, IsWriteAt, IsZeroAt, AreActs, AreActsOf, IsHistory}
use Rattle.hl_memory.specs.Memory.{AreOpen}
use Rattle.hl_traces.specs.OneTrace.{ActBy, acts_by, left_at, PlacesNone, Serves, HasOneTrace, TracesAreOne, page_left}
use Rattle.hl_traces.specs.Traces.{places, by_address, acts_of, trace, RiderTraces}
use Rattle.hl_memory.proofs.ActLaws.{cells_both, of_one_list, tied_of}
use Rattle.hl_memory.proofs.EndLaws.{open_at_end, loaded_at, words_are_memory}
use Rattle.hl_memory.proofs.FateLaws.{put_tied}
use Rattle.hl_memory.proofs.FindLaws.{act_is, find_act, IsEntering, ties as acts_tied}
use Rattle.hl_traces.proofs.AppendLaws.{LeavesOnly}
use Rattle.hl_traces.proofs.BeyondLaws.{none_of_other, puts_below, nothing_beyond}
use Rattle.hl_traces.proofs.JoinLaws.{either, not_both, joined, dropped, all_dropped, joined_theirs, joined_each, OnlyThreads, NoneByThreads, joined_leaves, joined_behind, Ties, own_ties, lower_ties, Stands, stands_none, Standing, past_own, past_other, shown_by}
use Rattle.hl_memory.proofs.KeepLaws.{acts_are_kept, acts_from}
use Rattle.hl_memory.proofs.LoadLaws.{OpenThere, open_cell, open_unswept}
use Rattle.hl_memory.proofs.OpenLaws.{change_open, changes_find_memory, load_open, open_there, open_find_memory, histories_stand, whose_act}
use Rattle.hl_memory.proofs.WrittenLaws.{stays}

-- calls of no rider, or of this
abbrev calls_of : Option RiderState → List Entry
calls_of None = []
calls_of (Some r) = r.calls

-- a write among some steps is one of their writes
one_stays : (steps older : List Step) (w : Step) → newest_writes steps (w ∷ older) ≡ [] → ⊥
one_stays [] older w e = absurd (cc e)
one_stays (Write t a v ∷ steps) older w e = one_stays steps (w ∷ older) (Write t a v) e
one_stays (_ ∷ steps) older w e = one_stays steps older w e

has_write : (first rest : List Step) (t a v : ℕ) → newest_writes (first ++ Write t a v ∷ rest) [] ≡ [] → ⊥
has_write first rest t a v e = one_stays rest (newest_writes first []) (Write t a v) (sym (writes_both first (Write t a v ∷ rest) []) ∙ e)

-- an act that stores, of a rider whose calls write nothing and of whom nothing waits, is a 0 of a sweep
zero_of : (sizes : Sizes) (whole : List Step) (all xs ys : List Touch) (act : Touch) (a v : ℕ) (calls : List Entry) → all ≡ xs ++ act ∷ ys → AreActs sizes all calls [] → AreTied all calls → Every (λ (e : Entry). Begins (left_by e) whole × (newest_writes e.steps [] ≡ [])) calls → IsPut act a v
    → (older : List Entry) × AreTied ys older × Every (λ (e : Entry). Begins (left_by e) whole) older × IsZeroAt sizes a v older
zero_of sizes whole all xs ys act a v calls split entered tied holds puts =
    let Q = λ (e : Entry). Begins (left_by e) whole × (newest_writes e.steps [] ≡ []) in
    let f = find_act sizes all act ys (λ (w : Step). ⊥) Q [] xs calls [] split (subst (λ (l : List Touch). AreActs sizes l calls []) split entered) (subst (λ (l : List Touch). AreTied l calls) split tied) holds tt in
    let begin = every_first f.calls f.holds in
    ⊎_elim
    (λ (w : (w : Step) × (older : List Step) × (f.waiting ≡ w ∷ older) × IsWriteAt sizes a v f.calls w).
    absurd
    (⊎_elim (λ (none : ⊥). none) (λ (g : IsEntering all act ys Q w.0). has_write g.first g.rest w.3.0 a v (ap (λ (l : List Step). newest_writes l []) (sym (g.steps ∙ ap (λ (s : Step). g.first ++ s ∷ g.rest) w.3.1)) ∙ g.holds.1))
    (subst (Every (λ (u : Step). ⊥ ⊎ IsEntering all act ys Q u)) w.2 f.origins).0))
    (λ (z : IsZeroAt sizes a v f.calls). (f.calls, put_tied a v act ys f.calls puts f.tied, begin, z))
    (act_is sizes a v act ys f.calls f.waiting puts f.entered)
  where
    every_first : (es : List Entry) → Every (λ (e : Entry). Begins (left_by e) whole × (newest_writes e.steps [] ≡ [])) es → Every (λ (e : Entry). Begins (left_by e) whole) es
    every_first [] h = tt
    every_first (e ∷ es) h = (h.0.0, every_first es h.1)

-- a list is what a function gives from a place on, if each of its elements is
word_by_word : (f : ℕ → ℕ) (xs : List ℕ) (a n : ℕ) → length xs ≡ n → ((k v : ℕ) → slice_get xs k ≡ Some v → v ≡ f (a + k)) → xs ≡ map f (range_with_len a n)
word_by_word f [] a zero long each = refl
word_by_word f [] a (suc n) long each = absurd (omega (arith, long))
word_by_word f (x ∷ xs) a zero long each = absurd (omega (arith, long))
word_by_word f (x ∷ xs) a (suc n) long each =
    let first : x ≡ f a = each 0 x refl ∙ ap f (omega arith) in
    let rest = word_by_word f xs (a + 1) n (omega (arith, long)) (λ k v there. each (suc k) v there ∙ ap f (omega arith)) in
    ap (λ (y : ℕ). y ∷ xs) first ∙ ap (λ (ys : List ℕ). f a ∷ ys) rest

module _ (F : Type 0) (sizes : Sizes) (riders : List RiderState) (ending : EndingState F) (ends : IsEnding sizes riders ending) (is_thread : ℕ → Bool) (page_some : 0 < sizes.page_size) (frames_some : 0 < sizes.frames)
    (first : (i : ℕ) (r : RiderState) → is_thread i ≡ true → slice_get riders i ≡ Some r → RiderTraces sizes r) (others : (i : ℕ) (r : RiderState) → is_thread i ≡ false → slice_get riders i ≡ Some r → Serves sizes r) where
  abbrev whole : List Step
  whole = ends.steps_cut ++ ending.journal

  -- these are the acts of a rider, which has those of its trace if it is a thread
  abbrev Chosen : ℕ → List Touch → Option RiderState → Type 0
  Chosen i acts None = acts ≡ []
  Chosen i acts (Some r) = AreActsOf sizes (ends.steps_cut ++ ending.journal) r acts
      × (is_thread i ≡ true → (acts ≡ by_address sizes r.view.touches r.calls) × AreOpen sizes acts r.calls (closed (ends.steps_cut ++ ending.journal)))
      × (is_thread i ≡ false → AreActs sizes acts r.calls [])

  chosen : (i : ℕ) → (acts : List Touch) × Chosen i acts (slice_get riders i)
  chosen i = by (slice_get riders i) refl
    where
      by : (o : Option RiderState) → slice_get riders i ≡ o → (acts : List Touch) × Chosen i acts o
      by None at = ([], refl)
      by (Some r) at = ⊎_elim low high (either (is_thread i))
        where
          low : is_thread i ≡ true → (acts : List Touch) × Chosen i acts (Some r)
          low less =
              let acts = by_address sizes r.view.touches r.calls in
              let h = (acts_are_kept sizes).ends (ends.steps_cut ++ ending.journal) r acts (first i r less at).acts in
              (acts, (h.0, (λ own. (refl, h.1)), λ far. absurd (not_both less far)))

          high : is_thread i ≡ false → (acts : List Touch) × Chosen i acts (Some r)
          high far =
              let s = others i r far at in
              let made = acts_from sizes page_some frames_some r.view.touches r.calls [] s.enters.entered s.enters.within in (
                made.0,
                (record { waiting = []; touches = made.1; entered = made.2; frees = s.enters.frees; calls = s.enters.calls; above = tt }, (λ less. absurd (not_both less far)), λ other. made.2),
              )

  chosen_at : (i : ℕ) (r : RiderState) → slice_get riders i ≡ Some r → Chosen i (chosen i).0 (Some r)
  chosen_at i r at = subst (Chosen i (chosen i).0) at (chosen i).1

  none_chosen : (i : ℕ) → slice_get riders i ≡ None → (chosen i).0 ≡ []
  none_chosen i at = subst (Chosen i (chosen i).0) at (chosen i).1

  history_is : (history : List TouchBy) × IsHistory sizes (ends.steps_cut ++ ending.journal) riders ends.ruled.rule.order.0 history × ((i : ℕ) → touches_of i history ≡ (chosen i).0)
  history_is = histories_stand F sizes riders ending ends (λ i. (chosen i).0) (λ i r at. (chosen_at i r at).0) (λ i far. none_chosen i (slice_get_past riders i far))

  abbrev history : List TouchBy
  history = history_is.0

  its : IsHistory sizes (ends.steps_cut ++ ending.journal) riders ends.ruled.rule.order.0 history_is.0
  its = history_is.1

  abbrev views : List RiderView
  views = map (λ (q : RiderState). q.view) riders

  -- the acts of a rider and its calls
  acts_begin : (i : ℕ) (r : RiderState) → slice_get riders i ≡ Some r → AreTied (touches_of i history_is.0) r.calls × Every (λ (e : Entry). Begins (left_by e) (ends.steps_cut ++ ending.journal)) r.calls
  acts_begin i r at =
      let begins = (of_one_list whole riders ends.one_list i r at).begins in
      (acts_tied sizes whole r (touches_of i history) (its.each i r at) begins (tied_of riders ends.tied i r at), begins)

  -- no others place records
  abbrev NoOthers : Type 0
  NoOthers = (i : ℕ) (r : RiderState) → is_thread i ≡ false → slice_get riders i ≡ Some r → PlacesNone sizes r

  abbrev Fits : ℕ → Entry → Type 0
  Fits i e = Begins (left_by e) (ends.steps_cut ++ ending.journal) × (is_thread i ≡ false → NoOthers → places sizes e.before e.steps ≡ [])

  begin_ties : Ties sizes is_thread Fits history_is.0 (λ i. calls_of (slice_get riders i))
  begin_ties i = by (slice_get riders i) refl
    where
      all_fit : (r : RiderState) → slice_get riders i ≡ Some r → Every (Fits i) r.calls
      all_fit r at = every_from (Fits i) r.calls (λ k e there.
          (every_at (λ (x : Entry). Begins (left_by x) (ends.steps_cut ++ ending.journal)) r.calls (acts_begin i r at).1 k e there, λ other none. every_at (λ (x : Entry). places sizes x.before x.steps ≡ []) r.calls (none i r other at) k e there))

      by : (o : Option RiderState) → slice_get riders i ≡ o → AreTied (touches_of i history_is.0) (calls_of o) × Every (Fits i) (calls_of o)
      by None at = (subst (λ (l : List Touch). AreTied l []) (sym (history_is.2 i ∙ none_chosen i at)) tt, tt)
      by (Some r) at = ((acts_begin i r at).0, all_fit r at)

  -- where an address is open, nobody but threads stored at it before
  only_threads : (newer b : List TouchBy) (a : ℕ) → history_is.0 ≡ newer ++ b → OpenThere sizes (ends.steps_cut ++ ending.journal) (map (λ (q : RiderState). q.view) riders) a b → OnlyThreads sizes is_thread a b
  only_threads newer b a parts o front i act base w at puts = ⊎_elim (λ (low : is_thread i ≡ true). low) (λ (far : is_thread i ≡ false). absurd (high far)) (either (is_thread i))
    where
      all : history_is.0 ≡ (newer ++ front) ++ by_rider i act ∷ base
      all = parts ∙ ap (λ (l : List TouchBy). newer ++ l) at ∙ sym (append_assoc newer front (by_rider i act ∷ base))

      split : touches_of i history_is.0 ≡ touches_of i (newer ++ front) ++ act ∷ touches_of i base
      split = ap (touches_of i) all ∙ touches_both i (newer ++ front) (by_rider i act ∷ base) ∙ ap (λ (l : List Touch). touches_of i (newer ++ front) ++ l) (own_more i act base)

      high : is_thread i ≡ false → ⊥
      high far =
          let r = whose_act F sizes riders ending ends page_some frames_some history its i (newer ++ front) base act all in
          let entered = subst (λ (l : List Touch). AreActs sizes l r.0.calls []) (sym (history_is.2 i)) ((chosen_at i r.0 r.1).2 far) in
          let t = acts_begin i r.0 r.1 in
          let holds = every_both (λ (e : Entry). Begins (left_by e) whole) (λ (e : Entry). newest_writes e.steps [] ≡ []) r.0.calls t.1 (others i r.0 far r.1).writes in
          let z = zero_of sizes whole (touches_of i history) (touches_of i (newer ++ front)) (touches_of i base) act a w r.0.calls split entered t.0 holds puts in
          open_unswept F sizes riders ending ends page_some frames_some history newer b its parts a o front i act base w z.0 at z.1 z.2 z.3

  -- what is there of an open address is what the trace has
  kept : (newer b : List TouchBy) (a : ℕ) (calls : ℕ → List Entry) → history_is.0 ≡ newer ++ b → OpenThere sizes (ends.steps_cut ++ ending.journal) (map (λ (q : RiderState). q.view) riders) a b → held a b ≡ left_at a (joined sizes is_thread b calls)
  kept newer b a calls parts o = sym (joined_leaves sizes is_thread a b calls (only_threads newer b a parts o))

  -- the acts of the threads are one trace
  standing : (newer b : List TouchBy) (calls : ℕ → List Entry) → history_is.0 ≡ newer ++ b → Ties sizes is_thread Fits b calls → Standing sizes is_thread page_some NoOthers (ends.steps_cut ++ ending.journal) (last_called (in_cells sizes b)) (joined sizes is_thread b calls)
  standing newer [] calls is tied = λ A begins long. by A long
    where
      by : (A : List Step) → length A ≡ 0 → Stands sizes is_thread page_some NoOthers 0 A []
      by [] none = stands_none sizes is_thread page_some NoOthers
      by (s ∷ A) none = absurd (omega (arith, none))
  standing newer (t ∷ b) calls is tied =
      let sooner = standing (newer ++ t ∷ []) b (dropped t calls) next (lower_ties sizes is_thread Fits t b calls tied) in
      shown_by sizes is_thread So t calls X
      (λ low. past_own sizes is_thread page_some NoOthers whole (Fits t.rider) (λ e fits. fits.0) (in_cells sizes b) X sooner t.rider t.touch (touches_of t.rider b) (calls t.rider) tie finds (loads low) (changes low))
      (λ far. past_other sizes is_thread page_some NoOthers whole (Fits t.rider) (λ e fits. fits.0) (in_cells sizes b) X sooner (λ e fits. fits.1 far) t.touch (touches_of t.rider b) (calls t.rider) tie finds)
    where
      X : List ActBy
      X = joined sizes is_thread b (dropped t calls)

      So : List ActBy → Type 0
      So = Standing sizes is_thread page_some NoOthers (ends.steps_cut ++ ending.journal) (last_called (in_cells sizes (t ∷ b)))

      next : history_is.0 ≡ (newer ++ t ∷ []) ++ b
      next = is ∙ sym (append_assoc newer (t ∷ []) b)

      tie : AreTied (t.touch ∷ touches_of t.rider b) (calls t.rider) × Every (Fits t.rider) (calls t.rider)
      tie = own_ties sizes is_thread Fits t b calls t.rider refl tied

      finds : Finds (in_cells sizes b) (in_cell sizes t.touch)
      finds = (serial_end (in_cells sizes newer) (in_cells sizes (t ∷ b)) (subst IsSerial (sym its.cells ∙ ap (in_cells sizes) is ∙ cells_both sizes newer (t ∷ b)) ends.ruled.rule.order.1.serial)).0

      here : (u : Touch) → t.touch ≡ u → history_is.0 ≡ newer ++ by_rider t.rider u ∷ b
      here u e = is ∙ ap (λ (x : Touch). newer ++ by_rider t.rider x ∷ b) e

      loads : is_thread t.rider ≡ true → (a v : ℕ) → t.touch ≡ Loaded a v → v ≡ left_at a (joined sizes is_thread b (dropped t calls))
      loads low a v e =
          let parts = here (Loaded a v) e in
          let r = whose_act F sizes riders ending ends page_some frames_some history its t.rider newer b (Loaded a v) parts in
          let opens = subst (λ (l : List Touch). AreOpen sizes l r.0.calls (closed whole)) (sym (history_is.2 t.rider)) (((chosen_at t.rider r.0 r.1).1 low).1) in
          let o = load_open F sizes riders ending ends page_some frames_some history its t.rider r.0 r.1 opens newer b a v parts in
          open_find_memory F sizes riders ending ends page_some frames_some history its t.rider r.0 r.1 opens newer b (Loaded a v) parts
          ∙ kept (newer ++ t ∷ []) b a (dropped t calls) next (open_there F sizes riders ending ends page_some frames_some history its t.rider newer b (Loaded a v) a parts o)

      changes : is_thread t.rider ≡ true → (a f v : ℕ) → t.touch ≡ Changed a f v → f ≡ left_at a (joined sizes is_thread b (dropped t calls))
      changes low a f v e =
          let parts = here (Changed a f v) e in
          let o = change_open F sizes riders ending ends page_some frames_some history its t.rider newer b a f v parts in
          changes_find_memory F sizes riders ending ends page_some frames_some history newer b its t.rider a f v parts
          ∙ kept (newer ++ t ∷ []) b a (dropped t calls) next (open_there F sizes riders ending ends page_some frames_some history its t.rider newer b (Changed a f v) a parts o)

  -- all of them
  stands : Stands sizes is_thread page_some NoOthers (length (ends.steps_cut ++ ending.journal)) (ends.steps_cut ++ ending.journal) (joined sizes is_thread history_is.0 (λ i. calls_of (slice_get riders i)))
  stands =
      let long : length whole ≡ (last_called (in_cells sizes history_is.0)).steps = ap (λ (e : Extent). e.steps) (sym (ap last_called its.cells ∙ ends.ruled.called_is)) in
      subst (λ (n : ℕ). Stands sizes is_thread page_some NoOthers n whole (joined sizes is_thread history_is.0 (λ i. calls_of (slice_get riders i)))) (sym long)
      (standing [] history_is.0 (λ i. calls_of (slice_get riders i)) refl begin_ties whole ([], sym (append-nil whole)) long)

  abbrev all_acts : List ActBy
  all_acts = joined sizes is_thread history_is.0 (λ i. calls_of (slice_get riders i))

  each_own : (i : ℕ) (r : RiderState) → is_thread i ≡ true → slice_get riders i ≡ Some r → acts_by i (joined sizes is_thread history_is.0 (λ j. calls_of (slice_get riders j))) ≡ trace sizes r
  each_own i r less at =
      joined_each sizes is_thread i less history (λ j. calls_of (slice_get riders j))
      ∙ ap (λ (l : List Touch). acts_of sizes l (calls_of (slice_get riders i))) (history_is.2 i ∙ ((chosen_at i r at).1 less).0)
      ∙ ap (λ (o : Option RiderState). acts_of sizes (by_address sizes r.view.touches r.calls) (calls_of o)) at

  -- the image of a page that was flushed
  page_word : (i page k v : ℕ) (image : List ℕ) (r : RiderState) → slice_get riders i ≡ Some r → HasFlushed sizes page image r → slice_get image k ≡ Some v → v ≡ left_at (page * sizes.page_size + k) (joined sizes is_thread history_is.0 (λ j. calls_of (slice_get riders j)))
  page_word i page k v image r at flushed there =
      let calls = λ (j : ℕ). calls_of (slice_get riders j) in
      let a = page * sizes.page_size + k in
      let f = flushed_by F sizes riders ending i page image r ends at flushed in
      let imaged = f.0 in
      let own = subst (λ (e : IsEnding sizes riders ending). IsHistory sizes (e.steps_cut ++ ending.journal) riders e.ruled.rule.order.0 history) (sym f.1) its in
      let l = loaded_at F sizes riders ending page k v image imaged page_some frames_some history own there in
      let o = subst (λ (e : IsEnding sizes riders ending). OpenThere sizes (e.steps_cut ++ ending.journal) views a l.before) f.1 l.is_open in
      let inside : k < sizes.page_size = omega (arith, slice_get_within image k v there, imaged.places) in
      let none : NoneByThreads sizes is_thread a l.newer = λ front j act base w is puts.
      ⊎_elim
      (λ (low : is_thread j ≡ true).
      let s = stays F sizes riders ending page k image imaged page_some frames_some inside history l.newer l.before own l.parts l.calls j w act front base is puts in
      absurd (s.3 (first j s.1 low s.2).pages))
      (λ (far : is_thread j ≡ false). far)
      (either (is_thread j)) in
      l.finds ∙ open_cell F sizes riders ending ends page_some frames_some history l.newer l.before its l.parts a o
      ∙ kept l.newer l.before a (all_dropped sizes is_thread a l.newer calls) l.parts o
      ∙ sym (joined_behind sizes is_thread a l.newer l.before calls none)
      ∙ ap (λ (h : List TouchBy). left_at a (joined sizes is_thread h calls)) (sym l.parts)

  -- all its words are
  page_is : (i page : ℕ) (image : List ℕ) (r : RiderState) → slice_get riders i ≡ Some r → HasFlushed sizes page image r → image ≡ page_left sizes page (joined sizes is_thread history_is.0 (λ j. calls_of (slice_get riders j)))
  page_is i page image r at flushed =
      let f = flushed_by F sizes riders ending i page image r ends at flushed in
      word_by_word (λ a. left_at a (joined sizes is_thread history_is.0 (λ j. calls_of (slice_get riders j)))) image (page * sizes.page_size) sizes.page_size f.0.places (λ k v there. page_word i page k v image r at flushed there)

  -- each rider's own acts store nothing at the tail or beyond
  own_below : (a : ℕ) → tail sizes (ends.steps_cut ++ ending.journal) ≤ a → (i : ℕ) → Every (LeavesOnly a 0) (acts_by i (joined sizes is_thread history_is.0 (λ j. calls_of (slice_get riders j))))
  own_below a far_off i = ⊎_elim low high (either (is_thread i))
    where
      all : List ActBy
      all = joined sizes is_thread history_is.0 (λ j. calls_of (slice_get riders j))

      high : is_thread i ≡ false → Every (LeavesOnly a 0) (acts_by i (joined sizes is_thread history_is.0 (λ j. calls_of (slice_get riders j))))
      high far = subst (Every (LeavesOnly a 0)) (sym (none_of_other is_thread i all far (joined_theirs sizes is_thread history_is.0 (λ j. calls_of (slice_get riders j))))) tt

      low : is_thread i ≡ true → Every (LeavesOnly a 0) (acts_by i (joined sizes is_thread history_is.0 (λ j. calls_of (slice_get riders j))))
      low own = by (slice_get riders i) refl
        where
          by : (o : Option RiderState) → slice_get riders i ≡ o → Every (LeavesOnly a 0) (acts_by i (joined sizes is_thread history_is.0 (λ j. calls_of (slice_get riders j))))
          by (Some r) at =
              let t = first i r own at in
              let plain = every_both (λ (e : Entry). Begins (left_by e) whole) (λ (e : Entry). list_any is_of_pages e.steps ≡ false) r.calls (acts_begin i r at).1 t.pages in
              subst (Every (LeavesOnly a 0)) (sym (each_own i r own at)) (puts_below sizes page_some whole a far_off (by_address sizes r.view.touches r.calls) r.calls [] t.acts.entered plain)
          by None at =
              subst (Every (LeavesOnly a 0))
              (sym (joined_each sizes is_thread i own history_is.0 (λ j. calls_of (slice_get riders j))
              ∙ ap (λ (l : List Touch). acts_of sizes l (calls_of (slice_get riders i))) (history_is.2 i ∙ none_chosen i at)))
              tt

  pub one_trace : HasOneTrace sizes riders ending ends is_thread
  one_trace = record {
    all = all_acts;
    one = stands.one;
    each = each_own;
    theirs = joined_theirs sizes is_thread history_is.0 (λ i. calls_of (slice_get riders i));
    words = λ a unclosed below.
        words_are_memory F sizes riders ending ends page_some frames_some history its a below unclosed
        ∙ kept [] history a (λ i. calls_of (slice_get riders i)) refl (open_at_end F sizes riders ending ends history its a below unclosed);
    placed = stands.placed;
    beyond = λ a far. nothing_beyond sizes page_some whole a far all_acts (own_below a far);
    pages = page_is;
  }

pub traces_are_one : (F : Type 0) → TracesAreOne F
traces_are_one F sizes riders ending ends is_thread page_some frames_some first others = one_trace F sizes riders ending ends is_thread page_some frames_some first others
