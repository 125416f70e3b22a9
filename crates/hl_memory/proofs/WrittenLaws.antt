-- What stands before the place of an image's word at its address, and what behind: each rider's newest write, and 0s of sweeps.
use Rattle.std.proofs.Common.{◌≡◌, ◌≢◌, ℕ, ◌+◌, ◌*◌, ◌/◌, ◌<◌, ◌≤◌, ◌==◌, Bool, true, false, List, [], ◌∷◌, ◌++◌, length, map, Some, None, slice_get, refl, ap, sym, ◌∙◌, inl, inr, ⊎_elim, subst, arith, append_assoc, length-append}
use Rattle.std.specs.Prelude.{Option, if◌then◌else◌}
use Rattle.std.specs.List.{AllByRecursion as Every}
use Rattle.std.proofs.lemmas.Bool.{eq-eqb, ne_eqb}
use Rattle.std.proofs.lemmas.Nat.{div-mul-add}
use Rattle.hl_model.specs.declared.step.Step.{Step}
use Rattle.hl_model.specs.declared.step.Step.TheVariants.{Write, CleanTake}
use Rattle.hl_model.specs.Pages.{next_to_clean}
use Rattle.hl_model.specs.Settled.{safe_read_only}
use Rattle.hl_model.specs.Sizes.{Sizes}
use Rattle.hl_model.specs.Words.{written_at}
use Rattle.hl_history.specs.declared.view.Entry.{Entry}
use Rattle.hl_history.specs.Lists.{Begins, entry, left_by}
use Rattle.hl_words.specs.declared.view.Extent.{Extent}
use Rattle.hl_words.specs.declared.view.RiderView.{RiderView}
use Rattle.hl_words.specs.declared.view.Touch.{Touch}
use Rattle.hl_words.specs.declared.view.Touch.TheVariants.{Stored, Changed, Called}
use Rattle.hl_words.specs.Past.{HasCalls, HasNoCalls}
use Rattle.hl_words.specs.Rule.{last_store, TouchBy, by_rider, touches_of}
use Rattle.hl_words.specs.States.{RiderState, AreTied}
use Rattle.hl_words.proofs.Orders.{own_more}
use Rattle.hl_words.proofs.PastProofs.{touches_both}
use Rattle.hl_keeper.specs.Endings.{EndingState}
use Rattle.hl_images.specs.Entered.{newest_writes}
use Rattle.hl_images.specs.Images.{IsImaged}
use Rattle.hl_images.specs.Writes.{WritesNothing, CallsWriteNothing, LastWrites}
use Rattle.hl_images.proofs.PlaceLaws.{every_in, same_begin, shorter, cleans_later}
use Rattle.hl_images.proofs.TakenLaws.{sealed_whole, low_call}
use Rattle.hl_images.proofs.WordLaws.{view_at}
use Rattle.hl_images.proofs.WriterLaws.{newest_step, early, early_calls}
use Rattle.hl_memory.specs.Acts.{in_cell, in_cells, IsPut, IsWriteAt, NoneOfPages, AreActs, IsHistory}
use Rattle.hl_memory.specs.Images.{ImagesStay}
use Rattle.hl_memory.proofs.ActLaws.{acts_both, acts_long, own_cells, of_one_list, tied_of}
use Rattle.hl_memory.proofs.CutLaws.{IsZeroed, ActsCut, cut_acts}
use Rattle.hl_memory.proofs.FindLaws.{Calls, ties, all_calls}
use Rattle.hl_memory.proofs.OpenLaws.{whose_act}

-- the newer of two values
abbrev newer_of : Option ℕ → Option ℕ → Option ℕ
newer_of (Some v) before = Some v
newer_of None before = before

-- what some steps leave of a value written at the address before; the newest step stands last, or first
abbrev written_last : ℕ → Option ℕ → List Step → Option ℕ
written_last a before [] = before
written_last a before (s ∷ steps) = written_last a (newer_of (written_at a s) before) steps

abbrev written_first : ℕ → Option ℕ → List Step → Option ℕ
written_first a before [] = before
written_first a before (s ∷ older) = newer_of (written_at a s) (written_first a before older)

-- what these calls wrote at the address last; the newest stands first
abbrev pub written_by : ℕ → List Entry → Option ℕ
written_by a [] = None
written_by a (call ∷ calls) = written_last a (written_by a calls) call.steps

last_both : (a : ℕ) (before : Option ℕ) (xs ys : List Step) → written_last a before (xs ++ ys) ≡ written_last a (written_last a before xs) ys
last_both a before [] ys = refl
last_both a before (x ∷ xs) ys = last_both a (newer_of (written_at a x) before) xs ys

first_both : (a : ℕ) (before : Option ℕ) (xs ys : List Step) → written_first a before (xs ++ ys) ≡ written_first a (written_first a before ys) xs
first_both a before [] ys = refl
first_both a before (x ∷ xs) ys = ap (newer_of (written_at a x)) (first_both a before xs ys)

turned : (a : ℕ) (before : Option ℕ) (steps older : List Step) → written_first a before (newest_writes steps older) ≡ written_last a (written_first a before older) steps
turned a before [] older = refl
turned a before (Write t b v ∷ steps) older = turned a before steps (Write t b v ∷ older)
turned a before (_ ∷ steps) older = turned a before steps older

silent_last : (a : ℕ) (before : Option ℕ) (steps : List Step) → WritesNothing a steps → written_last a before steps ≡ before
silent_last a before [] h = refl
silent_last a before (s ∷ steps) h = ap (λ (o : Option ℕ). written_last a (newer_of o before) steps) h.0 ∙ silent_last a before steps h.1

silent_first : (a : ℕ) (before : Option ℕ) (steps : List Step) → WritesNothing a steps → written_first a before steps ≡ before
silent_first a before [] h = refl
silent_first a before (s ∷ steps) h = ap (λ (o : Option ℕ). newer_of o (written_first a before steps)) h.0 ∙ silent_first a before steps h.1

pub silent_calls : (a : ℕ) (newer older : List Entry) → CallsWriteNothing a newer → written_by a (newer ++ older) ≡ written_by a older
silent_calls a [] older h = refl
silent_calls a (e ∷ newer) older h = silent_last a (written_by a (newer ++ older)) e.steps h.0 ∙ silent_calls a newer older h.1

pub last_calls : (a v : ℕ) (calls : List Entry) → LastWrites a v calls → written_by a calls ≡ Some v
last_calls a v calls l =
    let before = written_by a l.earlier in
    ap (written_by a) l.calls_are ∙ silent_calls a l.newer (l.call ∷ l.earlier) l.none ∙ ap (written_last a before) l.steps ∙ last_both a before l.first (Write l.slot a v ∷ l.rest)
    ∙ ap (λ (b : Bool). written_last a (newer_of (if b then Some v else None) (written_last a before l.first)) l.rest) (eq-eqb a a refl) ∙ silent_last a (Some v) l.rest l.silent

-- no call took the page of the address to be cleaned
abbrev IsFree : Sizes → ℕ → Entry → Type 0
IsFree sizes a e = (list : List Step) → e ≡ entry list (CleanTake ∷ []) → next_to_clean sizes list ≡ Some (a / sizes.page_size) → ⊥

-- What acts stored at an address last is what their calls wrote there last, where none of these took its page to be cleaned
module _ (sizes : Sizes) (a : ℕ) where
  one_more : (b : Bool) (v : ℕ) (o p : Option ℕ) → o ≡ p → (if b then Some v else o) ≡ newer_of (if b then Some v else None) p
  one_more true v o p e = refl
  one_more false v o p e = e

  write_more : (x v : ℕ) (calls : List Entry) (w : Step) (older waiting : List Step) (o before : Option ℕ) → IsWriteAt sizes x v calls w → waiting ≡ w ∷ older → o ≡ written_first a before older → (if x == a then Some v else o) ≡ written_first a before waiting
  write_more x v calls w older waiting o before is all e =
      one_more (x == a) v o (written_first a before older) e ∙ sym (ap (written_first a before) all ∙ ap (λ (s : Step). newer_of (written_at a s) (written_first a before older)) is.1)

  apart_more : (x v : ℕ) (o p : Option ℕ) → x ≢ a → o ≡ p → (if x == a then Some v else o) ≡ p
  apart_more x v o p apart e = ap (λ (b : Bool). if b then Some v else o) (ne_eqb x a apart) ∙ e

  pub only_writes : (ts : List Touch) (calls : List Entry) (waiting : List Step) → AreActs sizes ts calls waiting → AreTied ts calls → Every (IsFree sizes a) calls → last_store a ts ≡ written_first a (written_by a calls) waiting
  only_writes [] [] waiting h tied free = sym (ap (written_first a None) h)
  only_writes [] (call ∷ calls) waiting h tied free = absurd tied
  only_writes (Stored x v ∷ ts) calls waiting (inl w) tied free = write_more x v calls w.0 w.1 waiting (last_store a ts) (written_by a calls) w.3 w.2 (only_writes ts calls w.1 w.4 tied free)
  only_writes (Stored x v ∷ ts) calls waiting (inr z) tied free =
      let apart : x ≢ a = λ same. (subst (Every (IsFree sizes a)) z.0.3 free).0 z.0.1 refl (z.0.4 ∙ ap (λ (d : ℕ). Some (d / sizes.page_size)) same) in
      apart_more x v (last_store a ts) (written_first a (written_by a calls) waiting) apart (only_writes ts calls waiting z.1 tied free)
  only_writes (Changed x f v ∷ ts) calls waiting w tied free = write_more x v calls w.0 w.1 waiting (last_store a ts) (written_by a calls) w.3 w.2 (only_writes ts calls w.1 w.4 tied free)
  only_writes (Called met left ∷ ts) [] waiting h tied free = absurd tied
  only_writes (Called met left ∷ ts) (call ∷ calls) waiting h tied free =
      only_writes ts calls (waiting ++ newest_writes call.steps []) h tied.2 free.1 ∙ first_both a (written_by a calls) waiting (newest_writes call.steps []) ∙ ap (λ (o : Option ℕ). written_first a o waiting) (turned a (written_by a calls) call.steps [])
  only_writes (_ ∷ ts) calls waiting h tied free = only_writes ts calls waiting h tied free

-- what waits above an address doesn't write there
silent_above : (a n : ℕ) (w : Step) → ((t x v : ℕ) → w ≡ Write t x v → n ≤ x) → a < n → written_at a w ≡ None
silent_above a n (Write t x v) above less = ap (λ (b : Bool). if b then Some v else None) (ne_eqb x a (λ same. omega (arith, above t x v refl, less, same)))
silent_above a n _ above less = refl

all_silent : (a n : ℕ) (ws : List Step) → Every (λ w. (t x v : ℕ) → w ≡ Write t x v → n ≤ x) ws → a < n → WritesNothing a ws
all_silent a n [] above less = tt
all_silent a n (w ∷ ws) above less = (silent_above a n w above.0 less, all_silent a n ws above.1 less)

-- a list isn't longer than its end
no_longer : (ys m xs : List Touch) (t : Touch) (long : ℕ) (ts : List Touch) → length ts ≡ length ys → ts ≡ m ++ t ∷ xs → length xs ≡ long + length ys → ⊥
no_longer ys m xs t long ts own is has = omega (arith, own, ap length is, length-append m (t ∷ xs), has)

module _ (F : Type 0) (sizes : Sizes) (riders : List RiderState) (ending : EndingState F) (page k : ℕ) (image : List ℕ) (i : IsImaged sizes riders ending page image) (page_some : 0 < sizes.page_size) (frames_some : 0 < sizes.frames) (inside : k < sizes.page_size)
    (history newer before : List TouchBy) (its : IsHistory sizes (i.ends.steps_cut ++ ending.journal) riders i.ends.ruled.rule.order.0 history) (parts : history ≡ newer ++ before) (has : HasCalls (map (λ (q : RiderState). q.view) riders) (length i.list + 1) (in_cells sizes before)) where
  abbrev whole : List Step
  whole = i.ends.steps_cut ++ ending.journal

  abbrev a : ℕ
  a = page * sizes.page_size + k

  abbrev views : List RiderView
  views = map (λ (q : RiderState). q.view) riders

  split : (j : ℕ) → touches_of j history ≡ touches_of j newer ++ touches_of j before
  split j = ap (touches_of j) parts ∙ touches_both j newer before

  viewed : (j : ℕ) (r : RiderState) → slice_get riders j ≡ Some r → (xs ys : List Touch) → touches_of j history ≡ xs ++ ys → r.view.touches ≡ map (in_cell sizes) xs ++ map (in_cell sizes) ys
  viewed j r at xs ys is = sym (its.each j r at).touches ∙ ap (λ (l : List Touch). map (in_cell sizes) l) is ∙ acts_both sizes xs ys

  -- a call behind the place writes nothing at the address
  late : (j : ℕ) (r : RiderState) → slice_get riders j ≡ Some r → (pre : List Touch) (met left : Extent) (xs : List Touch) (call : Entry) → touches_of j history ≡ pre ++ Called met left ∷ (xs ++ touches_of j before) → left.steps ≡ length (left_by call)
      → Calls (i.ends.steps_cut ++ ending.journal) call → WritesNothing (page * sizes.page_size + k) call.steps
  late j r at pre met left xs call is left_is own =
      ⊎_elim (λ (none : WritesNothing a call.steps). none)
      (λ (w : (slot v : ℕ) × (first rest : List Step) × (call.steps ≡ first ++ Write slot a v ∷ rest) × WritesNothing a rest).
      let low = low_call sizes whole page_some frames_some i.ends.accepted page k inside i.list i.later i.taken i.take i.done call w.0 w.1 w.2 w.3 own.0 own.1 w.4 in
      let ys = touches_of j before in
      let past = map (in_cell sizes) (xs ++ ys) in
      let all = has j met left r.view (map (in_cell sizes) pre) past (view_at riders j r at) (viewed j r at pre (Called met left ∷ (xs ++ ys)) is) (omega (arith, low, left_is)) in
      absurd (no_longer ys all.0 past (Called met left) (length xs) (touches_of j (in_cells sizes before)) (ap length (own_cells sizes j before) ∙ acts_long sizes ys) all.1 (acts_long sizes (xs ++ ys) ∙ length-append xs ys)))
      (newest_step a call.steps)

  -- a rider's acts before the place
  cut : (j : ℕ) (r : RiderState) (at : slice_get riders j ≡ Some r) → ActsCut sizes (page * sizes.page_size + k) (touches_of j history) (touches_of j before) r.calls (Calls (i.ends.steps_cut ++ ending.journal)) (late j r at)
  cut j r at =
      let acts = its.each j r at in
      let end : (page + 1) * sizes.page_size ≡ page * sizes.page_size + sizes.page_size = omega arith in
      let low : a < safe_read_only whole = omega (arith, sealed_whole sizes whole page_some frames_some i.ends.accepted page k inside i.list i.later i.taken i.take i.done, end, inside) in
      let tied = ties sizes whole r (touches_of j history) acts (of_one_list whole riders i.ends.one_list j r at).begins (tied_of riders i.ends.tied j r at) in
      cut_acts sizes a (touches_of j history) (touches_of j before) r.calls (Calls whole) (late j r at) [] (touches_of j newer) [] r.calls acts.waiting (split j) refl tt tt
      (subst (λ (l : List Touch). AreActs sizes l r.calls acts.waiting) (split j) acts.entered) (subst (λ (l : List Touch). AreTied l r.calls) (split j) tied) (all_calls sizes whole r (touches_of j history) acts (of_one_list whole riders i.ends.one_list j r at).begins (tied_of riders i.ends.tied j r at))
      (all_silent a (safe_read_only whole) acts.waiting acts.above low)

  -- what it did behind the place
  pub zeroed : (j : ℕ) (r : RiderState) → slice_get riders j ≡ Some r → Every (IsZeroed r.calls (page * sizes.page_size + k)) (touches_of j newer)
  zeroed j r at =
      let c = cut j r at in
      subst (Every (IsZeroed r.calls a)) (sym (same_begin (touches_of j newer) c.front (touches_of j before) (sym (split j) ∙ c.all_are))) c.zeroed

  pub stays : (j w : ℕ) (act : Touch) (front base : List TouchBy) → newer ≡ front ++ by_rider j act ∷ base → IsPut act (page * sizes.page_size + k) w
      → (act ≡ Stored (page * sizes.page_size + k) 0) × (r : RiderState) × (slice_get riders j ≡ Some r) × (NoneOfPages r.calls → ⊥)
  stays j w act front base is puts =
      let all : history ≡ front ++ by_rider j act ∷ (base ++ before) = parts ∙ ap (λ (l : List TouchBy). l ++ before) is ∙ append_assoc front (by_rider j act ∷ base) before in
      let r = whose_act F sizes riders ending i.ends page_some frames_some history its j front (base ++ before) act all in
      let own : touches_of j newer ≡ touches_of j front ++ act ∷ touches_of j base = ap (touches_of j) is ∙ touches_both j front (by_rider j act ∷ base) ∙ ap (λ (l : List Touch). touches_of j front ++ l) (own_more j act base) in
      let z = every_in (IsZeroed r.0.calls a) (touches_of j front) act (touches_of j base) (subst (Every (IsZeroed r.0.calls a)) own (zeroed j r.0 r.1)) w puts in
      (z.0, r.0, r.1, z.1)

  -- what it stored at the address before the place last is what its calls wrote there last
  pub newest_write : HasNoCalls (map (λ (q : RiderState). q.view) riders) (length i.later) (in_cells sizes before) → (j : ℕ) (r : RiderState) → slice_get riders j ≡ Some r → last_store (page * sizes.page_size + k) (touches_of j before) ≡ written_by (page * sizes.page_size + k) r.calls
  newest_write has_no j r at =
      let c = cut j r at in
      let ys = touches_of j before in
      let long : length (map (in_cell sizes) ys) ≡ length (touches_of j (in_cells sizes before)) = ap length (sym (own_cells sizes j before)) in
      let most : (front : List Touch) (met left : Extent) (rest : List Touch) → ys ≡ front ++ Called met left ∷ rest → met.steps ≤ length i.later =
      λ front met left rest is.
      early views (in_cells sizes before) (length i.later) j r.view (map (in_cell sizes) (touches_of j newer)) (map (in_cell sizes) ys) has_no (view_at riders j r at) (viewed j r at (touches_of j newer) ys (split j)) long (map (in_cell sizes) front) met left (map (in_cell sizes) rest)
      (ap (λ (l : List Touch). map (in_cell sizes) l) is ∙ acts_both sizes front (Called met left ∷ rest)) in
      only_writes sizes a ys c.older c.waiting c.entered c.tied (all_free c.older c.holds (early_calls (length i.later) ys c.older most c.tied))
      ∙ silent_first a (written_by a c.older) c.waiting c.none ∙ sym (ap (written_by a) c.calls_are ∙ silent_calls a c.newer c.older c.silent)
    where
      free : (e : Entry) → Calls (i.ends.steps_cut ++ ending.journal) e → length e.before ≤ length i.later → IsFree sizes (page * sizes.page_size + k) e
      free e own few list is next =
          let b : Begins (list ++ CleanTake ∷ []) whole = subst (λ (x : Entry). Begins (left_by x) whole) is own.0 in
          let at = shorter sizes whole page_some frames_some i.ends.accepted list (CleanTake ∷ []) b in
          let same : next_to_clean sizes list ≡ Some page = next ∙ ap (λ (x : ℕ). Some x) (div-mul-add page sizes.page_size k inside) in
          omega (arith, cleans_later sizes whole page_some frames_some i.ends.accepted page i.later i.done page list at same (omega arith), few, ap (λ (x : Entry). length x.before) is)

      all_free : (es : List Entry) → Every (Calls (i.ends.steps_cut ++ ending.journal)) es → Every (λ (e : Entry). length e.before ≤ length i.later) es → Every (IsFree sizes (page * sizes.page_size + k)) es
      all_free [] own few = tt
      all_free (e ∷ es) own few = (free e own.0 few.0, all_free es own.1 few.1)

pub images_stay : (F : Type 0) → ImagesStay F
images_stay F sizes riders ending page k image i page_some frames_some inside history newer before its parts calls j w act front base is puts = stays F sizes riders ending page k image i page_some frames_some inside history newer before its parts calls j w act front base is puts
