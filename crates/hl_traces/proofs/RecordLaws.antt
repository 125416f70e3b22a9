-- What threads that append records leave to whoever reads them.
use Rattle.std.proofs.Common.{◌≡◌, ◌≢◌, ℕ, ◌+◌, ◌<◌, ◌≤◌, ◌⊎◌, List, [], ◌∷◌, ◌++◌, length, Some, slice_get, refl, ap, sym, ◌∙◌, inl, inr, ⊎_elim, subst, arith}
use Rattle.std.specs.List.{AllByRecursion as Every}
use Rattle.std.proofs.lemmas.Bool.{cases_eq, cases_lt}
use Rattle.hl_words.proofs.Cut.{every_back}
use Rattle.hl_words.proofs.Orders.{within}
use Rattle.hl_traces.specs.declared.act.Act.{Act}
use Rattle.hl_traces.specs.declared.act.Act.TheVariants.{Placed, Stored, Loaded, Changed, Met}
use Rattle.hl_traces.specs.OneTrace.{ActBy, by_thread, acts_by, left_at, leaves_at, EndsBelow, Follows, AreOne}
use Rattle.hl_traces.specs.Records.{Appended, append_acts, AllAppend, IsWordOf, RecordsAreApart, RecordsStay, RecordsAreFound, RecordsAreRead, OthersAreZero}
use Rattle.hl_traces.proofs.AppendLaws.{StoresAt, stores_or_not, passes, LeavesOnly, leaves, Has, every_has, has_changes, every_changes, every_appended, has_word, has_placed, every_records, has_record, Behind, Ordered, ordered_changes, ordered_records, Preceded, preceded_none, preceded_changes, preceded_records, preceded_appended}
use Rattle.hl_traces.proofs.ThreadLaws.{own_act, other_act, acts_behind, acts_back, acts_upon, acts_onto, every_thread, every_own, one_back}

-- the records of one thread lie one behind another
ordered_acts : (i : ℕ) (all : List ActBy) → AreOne all → Ordered (acts_by i all)
ordered_acts i [] one = tt
ordered_acts i (t ∷ before) one =
    ⊎_elim
    (λ (same : t.thread ≡ i). subst Ordered (sym (own_act i t before same)) (behind t.act one.0, ordered_acts i before one.1))
    (λ (apart : t.thread ≢ i). subst Ordered (sym (other_act i t before apart)) (ordered_acts i before one.1))
    (cases_eq t.thread i)
  where
    -- as the newest act says
    behind : (x : Act) → Follows before x → Behind (acts_by i before) x
    behind (Placed a n) h = every_own (EndsBelow a) i before h
    behind (Stored a v) h = tt
    behind (Loaded a v) h = tt
    behind (Changed a found v) h = tt
    behind (Met n) h = tt

-- An act of a thread
module _ (x : Act) (i : ℕ) (t : ActBy) (before : List ActBy) where
  -- is the newest of all, or one before
  newest_or_before : Has x (acts_by i (t ∷ before)) → ((t.thread ≡ i) × (t.act ≡ x)) ⊎ Has x (acts_by i before)
  newest_or_before has =
      ⊎_elim
      (λ (same : t.thread ≡ i). ⊎_elim (λ (e : t.act ≡ x). inl (same, e)) (λ (h : Has x (acts_by i before)). inr h) (subst (Has x) (own_act i t before same) has))
      (λ (apart : t.thread ≢ i). inr (subst (Has x) (other_act i t before apart) has))
      (cases_eq t.thread i)

-- the records of two threads lie apart
placed_apart : (i j a m b n : ℕ) (all : List ActBy) → i ≢ j → AreOne all → Has (Placed a m) (acts_by i all) → Has (Placed b n) (acts_by j all) → (a + m ≤ b) ⊎ (b + n ≤ a)
placed_apart i j a m b n [] apart one at_a at_b = absurd at_a
placed_apart i j a m b n (t ∷ before) apart one at_a at_b =
    ⊎_elim
    (λ (new : (t.thread ≡ i) × (t.act ≡ Placed a m)).
    ⊎_elim
    (λ (too : (t.thread ≡ j) × (t.act ≡ Placed b n)). absurd (apart (sym new.0 ∙ too.0)))
    (λ (old : Has (Placed b n) (acts_by j before)). inr (below a m b n j new.1 old))
    (newest_or_before (Placed b n) j t before at_b))
    (λ (old : Has (Placed a m) (acts_by i before)).
    ⊎_elim
    (λ (new : (t.thread ≡ j) × (t.act ≡ Placed b n)). inl (below b n a m i new.1 old))
    (λ (too : Has (Placed b n) (acts_by j before)). placed_apart i j a m b n before apart one.1 old too)
    (newest_or_before (Placed b n) j t before at_b))
    (newest_or_before (Placed a m) i t before at_a)
  where
    -- the newest lies behind the others
    below : (c k d l h : ℕ) → t.act ≡ Placed c k → Has (Placed d l) (acts_by h before) → d + l ≤ c
    below c k d l h is has = every_has (EndsBelow c) (Placed d l) (acts_by h before) (every_own (EndsBelow c) h before (subst (Follows before) is one.0)) has

-- where all stores leave the same, that is left, or 0
pub found_one : (a v : ℕ) (all : List ActBy) → Every (λ (t : ActBy). LeavesOnly a v t.act) all → (left_at a all ≡ 0) ⊎ (left_at a all ≡ v)
found_one a v [] only = inl refl
found_one a v (t ∷ before) only =
    let sooner = found_one a v before only.1 in
    ⊎_elim
    (λ (at : StoresAt a t.act). inr (leaves a v (left_at a before) t.act at only.0))
    (λ (none : StoresAt a t.act → ⊥). subst (λ (w : ℕ). (w ≡ 0) ⊎ (w ≡ v)) (sym (passes a (left_at a before) t.act none)) sooner)
    (stores_or_not a t.act)

-- it is that, if a thread stored it
found_that : (i a v : ℕ) (all : List ActBy) → Every (λ (t : ActBy). LeavesOnly a v t.act) all → Has (Stored a v) (acts_by i all) → left_at a all ≡ v
found_that i a v [] only has = absurd has
found_that i a v (t ∷ before) only has =
    ⊎_elim
    (λ (at : StoresAt a t.act). leaves a v (left_at a before) t.act at only.0)
    (λ (none : StoresAt a t.act → ⊥).
    passes a (left_at a before) t.act none
    ∙ ⊎_elim
    (λ (new : (t.thread ≡ i) × (t.act ≡ Stored a v)). absurd (none (subst (StoresAt a) (sym new.1) refl)))
    (λ (old : Has (Stored a v) (acts_by i before)). found_that i a v before only.1 old)
    (newest_or_before (Stored a v) i t before has))
    (stores_or_not a t.act)

-- where 0 isn't left at the second address, this was stored at the first
stored_before : (a v b : ℕ) (all : List ActBy) → ((j : ℕ) → Preceded a v b (acts_by j all)) → (left_at b all ≡ 0) ⊎ ((j : ℕ) × Has (Stored a v) (acts_by j all))
stored_before a v b [] each = inl refl
stored_before a v b (t ∷ before) each =
    ⊎_elim
    (λ (at : StoresAt b t.act).
    let own : acts_by t.thread (t ∷ before) ≡ t.act ∷ acts_by t.thread before = own_act t.thread t before refl in
    inr (t.thread, subst (Has (Stored a v)) (sym own) ((subst (Preceded a v b) own (each t.thread)).0 at)))
    (λ (none : StoresAt b t.act → ⊥).
    ⊎_elim
    (λ (empty : left_at b before ≡ 0). inl (passes b (left_at b before) t.act none ∙ empty))
    (λ (old : (j : ℕ) × Has (Stored a v) (acts_by j before)). inr (old.0, acts_upon (Has (Stored a v)) (λ x xs h. inr h) old.0 t before old.1))
    (stored_before a v b before (λ j. acts_behind (Preceded a v b) (λ x xs h. h.1) j t before (each j))))
    (stores_or_not b t.act)

-- Threads that append records and store nothing else
module _ (all : List ActBy) (records : ℕ → List Appended) (appends : AllAppend records all) where
  -- an act of an append is one of its thread
  has_act : (x : Act) (i k : ℕ) (r : Appended) → slice_get (records i) k ≡ Some r → Has x (append_acts r) → Has x (acts_by i all)
  has_act x i k r at h = has_changes x (acts_by i all) (subst (Has x) (sym (appends i)) (has_record x (records i) k r at h))

  -- where the stores of all appends leave the same at an address, all do
  only_leaves : (a v : ℕ) → ((j q : ℕ) (s : Appended) → slice_get (records j) q ≡ Some s → (p w : ℕ) → p < s.count → slice_get s.words p ≡ Some w → s.address + p ≡ a → w ≡ v) → Every (λ (t : ActBy). LeavesOnly a v t.act) all
  only_leaves a v each =
      every_thread (LeavesOnly a v) all
      (λ j.
      every_changes (LeavesOnly a v) (λ b w. tt) (λ n. tt) (acts_by j all)
      (subst (Every (LeavesOnly a v)) (sym (appends j)) (every_records (LeavesOnly a v) (records j) (λ q s at. every_appended (LeavesOnly a v) s (each j q s at) tt))))

  -- what a store leaves at an address is a word of a record
  each_word : (a : ℕ) → Every (λ (t : ActBy). StoresAt a t.act → IsWordOf records a (leaves_at a t.act 0)) all
  each_word a =
      let P = λ (x : Act). StoresAt a x → IsWordOf records a (leaves_at a x 0) in
      every_thread P all
      (λ j.
      every_changes P (λ b w at. absurd at) (λ n at. absurd at) (acts_by j all)
      (subst (Every P) (sym (appends j))
      (every_records P (records j)
      (λ q s at. every_appended P s (λ p w less is here. subst (IsWordOf records a) (sym (leaves a w 0 (Stored (s.address + p) w) here (λ _. refl))) (j, q, p, s, at, less, is, here)) (λ e. absurd e)))))

  module _ (one : AreOne all) where
    -- of two records of a thread the earlier ends below the later
    apart_in_thread : (i k l : ℕ) (r s : Appended) → slice_get (records i) k ≡ Some r → slice_get (records i) l ≡ Some s → k < l → s.address + length s.words ≤ r.address
    apart_in_thread i k l r s at_r at_s less = ordered_records (records i) k l r s (subst Ordered (appends i) (ordered_changes (acts_by i all) (ordered_acts i all one))) at_r at_s less

    -- two records share no address
    records_apart : (i k j l : ℕ) (r s : Appended) → slice_get (records i) k ≡ Some r → slice_get (records j) l ≡ Some s
        → ((i ≡ j) × (k ≡ l)) ⊎ ((r.address + length r.words ≤ s.address) ⊎ (s.address + length s.words ≤ r.address))
    records_apart i k j l r s at_r at_s =
        ⊎_elim
        (λ (same : i ≡ j).
        let at : slice_get (records i) l ≡ Some s = ap (λ (h : ℕ). slice_get (records h) l) same ∙ at_s in
        ⊎_elim
        (λ (e : k ≡ l). inl (same, e))
        (λ (other : k ≢ l).
        ⊎_elim
        (λ (less : k < l). inr (inr (apart_in_thread i k l r s at_r at less)))
        (λ (more : l ≤ k). inr (inl (apart_in_thread i l k s r at at_r (less_than l k more (λ e. other (sym e))))))
        (cases_lt k l))
        (cases_eq k l))
        (λ (other : i ≢ j).
        inr (placed_apart i j r.address (length r.words) s.address (length s.words) all other one (has_act (Placed r.address (length r.words)) i k r at_r (has_placed r)) (has_act (Placed s.address (length s.words)) j l s at_s (has_placed s))))
        (cases_eq i j)
      where
        less_than : (m n : ℕ) → m ≤ n → m ≢ n → m < n
        less_than m n le other = ⊎_elim (λ (less : m < n). less) (λ (more : n ≤ m). absurd (other (omega (arith, le, more)))) (cases_lt m n)

    -- One record
    module _ (i k : ℕ) (r : Appended) (at_r : slice_get (records i) k ≡ Some r) where
      -- each record is that one, or apart from it
      that_or_apart : (j q : ℕ) (s : Appended) → slice_get (records j) q ≡ Some s → (r ≡ s) ⊎ ((r.address + length r.words ≤ s.address) ⊎ (s.address + length s.words ≤ r.address))
      that_or_apart j q s at_s =
          ⊎_elim
          (λ (same : (i ≡ j) × (k ≡ q)).
          let both : Some r ≡ Some s = sym at_r ∙ ap (λ (h : ℕ). slice_get (records h) k) same.0 ∙ ap (slice_get (records j)) same.1 ∙ at_s in
          inl (cc both))
          (λ (other : (r.address + length r.words ≤ s.address) ⊎ (s.address + length s.words ≤ r.address)). inr other)
          (records_apart i k j q r s at_r at_s)

      -- only its own append stores within it
      within_it : (m j q : ℕ) (s : Appended) → m < length r.words → slice_get (records j) q ≡ Some s → (p w : ℕ) → slice_get s.words p ≡ Some w → s.address + p ≡ r.address + m → r ≡ s
      within_it m j q s inside at_s p w is here =
          let few = within s.words p w is in
          ⊎_elim
          (λ (same : r ≡ s). same)
          (⊎_elim
          (λ (low : r.address + length r.words ≤ s.address). absurd (omega (arith, low, inside, here)))
          (λ (high : s.address + length s.words ≤ r.address). absurd (omega (arith, high, few, here))))
          (that_or_apart j q s at_s)

      -- so all that store one of its words leave that word
      one_word : (m v : ℕ) → slice_get r.words m ≡ Some v → Every (λ (t : ActBy). LeavesOnly (r.address + m) v t.act) all
      one_word m v at_m =
          only_leaves (r.address + m) v
          (λ j q s at_s p w less is here.
          let same = within_it m j q s (within r.words m v at_m) at_s p w is here in
          let place : p ≡ m = omega (arith, here, ap (λ (z : Appended). z.address) same) in
          let both : Some w ≡ Some v = sym is ∙ ap (λ (z : Appended). slice_get z.words p) (sym same) ∙ ap (slice_get r.words) place ∙ at_m in
          cc both)

      -- each store of a later word has the earlier one before it
      word_before : (l m v : ℕ) → m < length r.words → l ≤ m → slice_get r.words l ≡ Some v → (j : ℕ) → Preceded (r.address + l) v (r.address + m) (acts_by j all)
      word_before l m v inside le is j =
          let P = Preceded (r.address + l) v (r.address + m) in
          preceded_changes (r.address + l) v (r.address + m) (acts_by j all) (subst P (sym (appends j)) (preceded_records (r.address + l) v (r.address + m) (records j) each))
        where
          each : (q : ℕ) (s : Appended) → slice_get (records j) q ≡ Some s → Preceded (r.address + l) v (r.address + m) (append_acts s)
          each q s at_s =
              ⊎_elim
              (λ (same : r ≡ s). subst (λ (z : Appended). Preceded (r.address + l) v (r.address + m) (append_acts z)) same (preceded_appended (r.address + l) v (r.address + m) r l m refl refl le is))
              (λ (other : (r.address + length r.words ≤ s.address) ⊎ (s.address + length s.words ≤ r.address)).
              preceded_none (r.address + l) v (r.address + m) (append_acts s)
              (every_appended (λ (x : Act). StoresAt (r.address + m) x → ⊥) s
              (λ p w less has here.
              let few = within s.words p w has in
              ⊎_elim
              (λ (low : r.address + length r.words ≤ s.address). absurd (omega (arith, low, inside, here)))
              (λ (high : s.address + length s.words ≤ r.address). absurd (omega (arith, high, few, here)))
              other)
              (λ at. at)))
              (that_or_apart j q s at_s)

pub records_are_apart : RecordsAreApart
records_are_apart all records one appends i k j l r s at_r at_s = records_apart all records appends one i k j l r s at_r at_s

pub records_stay : RecordsStay
records_stay all records one appends i k m v r at_r less at_m =
    found_that i (r.address + m) v all (one_word all records appends one i k r at_r m v at_m) (has_act all records appends (Stored (r.address + m) v) i k r at_r (has_word r m v less at_m))

pub records_are_found : RecordsAreFound
records_are_found all records one appends i k m v r at_r at_m newer before j x whole =
    let a = r.address + m in
    let load = by_thread j (Loaded a x) in
    let P = λ (t : ActBy). LeavesOnly a v t.act in
    let only : Every P (load ∷ before) = every_back P newer (load ∷ before) (subst (Every P) whole (one_word all records appends one i k r at_r m v at_m)) in
    let found : x ≡ left_at a before = (one_back newer (load ∷ before) (subst AreOne whole one)).0 in
    subst (λ (w : ℕ). (w ≡ 0) ⊎ (w ≡ v)) (sym found) (found_one a v before only.1)

pub records_are_read : RecordsAreRead
records_are_read all records one appends i k m l v r at_r inside le at_l newer between before j n x y whole some =
    let a = r.address + l in
    let b = r.address + m in
    let first = by_thread n (Loaded b x) in
    let second = by_thread j (Loaded a y) in
    let between_on = between ++ first ∷ before in
    let P = λ (t : ActBy). LeavesOnly a v t.act in
    let rest : AreOne (second ∷ between_on) = one_back newer (second ∷ between_on) (subst AreOne whole one) in
    let found : x ≡ left_at b before = (one_back between (first ∷ before) rest.1).0 in
    let only : Every P (second ∷ between_on) = every_back P newer (second ∷ between_on) (subst (Every P) whole (one_word all records appends one i k r at_r l v at_l)) in
    let each : (h : ℕ) → Preceded a v b (acts_by h before) =
    λ h.
    let now = subst (λ (z : List ActBy). Preceded a v b (acts_by h z)) whole (word_before all records appends one i k r at_r l m v inside le at_l h) in
    let ends = λ (z : Act) (zs : List Act) (p : Preceded a v b (z ∷ zs)). p.1 in
    let later = acts_back (Preceded a v b) ends h newer (second ∷ between_on) now in
    let middle = acts_back (Preceded a v b) ends h (second ∷ between) (first ∷ before) later in
    acts_behind (Preceded a v b) ends h first before middle in
    ⊎_elim
    (λ (empty : left_at b before ≡ 0). absurd (some (found ∙ empty)))
    (λ (h : (h : ℕ) × Has (Stored a v) (acts_by h before)).
    let there = acts_onto (Has (Stored a v)) (λ z zs p. inr p) h.0 between (first ∷ before) (acts_upon (Has (Stored a v)) (λ z zs p. inr p) h.0 first before h.1) in
    rest.0 ∙ found_that h.0 a v between_on only.1 there)
    (stored_before a v b before each)

-- the newest store at an address leaves the same there, whatever was there
same_left : (a w : ℕ) (x : Act) → StoresAt a x → leaves_at a x w ≡ leaves_at a x 0
same_left a w (Stored b v) at = leaves a v w (Stored b v) at (λ _. refl) ∙ sym (leaves a v 0 (Stored b v) at (λ _. refl))
same_left a w (Changed b found v) at = leaves a v w (Changed b found v) at (λ _. refl) ∙ sym (leaves a v 0 (Changed b found v) at (λ _. refl))
same_left a w (Placed b n) at = absurd at
same_left a w (Loaded b v) at = absurd at
same_left a w (Met n) at = absurd at

-- where each store leaves such a word, one is left, or 0
zero_or : (a : ℕ) (Is : ℕ → Type 0) (all : List ActBy) → Every (λ (t : ActBy). StoresAt a t.act → Is (leaves_at a t.act 0)) all → (left_at a all ≡ 0) ⊎ Is (left_at a all)
zero_or a Is [] each = inl refl
zero_or a Is (t ∷ before) each =
    ⊎_elim
    (λ (at : StoresAt a t.act). inr (subst Is (sym (same_left a (left_at a before) t.act at)) (each.0 at)))
    (λ (none : StoresAt a t.act → ⊥). subst (λ (w : ℕ). (w ≡ 0) ⊎ Is w) (sym (passes a (left_at a before) t.act none)) (zero_or a Is before each.1))
    (stores_or_not a t.act)

pub others_are_zero : OthersAreZero
others_are_zero all records appends a = zero_or a (IsWordOf records a) all (each_word all records appends a)
