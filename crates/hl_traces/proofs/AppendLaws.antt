-- The acts of threads that append records, as lists: what an append stores and places, and what holds of many.
use Rattle.std.proofs.Common.{◌≡◌, ℕ, zero, suc, ◌+◌, ◌<◌, ◌≤◌, ◌⊎◌, Bool, List, [], ◌∷◌, ◌++◌, length, take, Some, slice_get, refl, ap, sym, ◌∙◌, inl, inr, subst, arith}
use Rattle.std.specs.Prelude.{if◌then◌else◌}
use Rattle.std.specs.List.{AllByRecursion as Every, flat_map}
use Rattle.std.proofs.lemmas.Bool.{cases_eq, eq-eqb, ne_eqb}
use Rattle.hl_words.proofs.Cut.{every_append}
use Rattle.hl_traces.specs.declared.act.Act.{Act}
use Rattle.hl_traces.specs.declared.act.Act.TheVariants.{Placed, Stored, Loaded, Changed, Met}
use Rattle.hl_traces.specs.OneTrace.{leaves_at, EndsBelow}
use Rattle.hl_traces.specs.Records.{Appended, append_acts, changes, stores_from}

-- an act that stores at this address
abbrev pub StoresAt : ℕ → Act → Type 0
StoresAt a (Stored b v) = b ≡ a
StoresAt a (Changed b found v) = b ≡ a
StoresAt a _ = ⊥

-- an act does, or it doesn't
pub stores_or_not : (a : ℕ) (x : Act) → StoresAt a x ⊎ (StoresAt a x → ⊥)
stores_or_not a (Stored b v) = cases_eq b a
stores_or_not a (Changed b found v) = cases_eq b a
stores_or_not a _ = inr (λ e. e)

-- an act that doesn't leaves what was there
pub passes : (a w : ℕ) (x : Act) → (StoresAt a x → ⊥) → leaves_at a x w ≡ w
passes a w (Stored b v) none = ap (λ (c : Bool). if c then v else w) (ne_eqb b a none)
passes a w (Changed b found v) none = ap (λ (c : Bool). if c then v else w) (ne_eqb b a none)
passes a w _ none = refl

-- an act that leaves this there, if it stores there
abbrev pub LeavesOnly : ℕ → ℕ → Act → Type 0
LeavesOnly a v (Stored b w) = b ≡ a → w ≡ v
LeavesOnly a v (Changed b found w) = b ≡ a → w ≡ v
LeavesOnly a v _ = Unit {0}

-- if it does, that is what the address has then
pub leaves : (a v w : ℕ) (x : Act) → StoresAt a x → LeavesOnly a v x → leaves_at a x w ≡ v
leaves a v w (Stored b u) at only = ap (λ (c : Bool). if c then u else w) (eq-eqb b a at) ∙ only at
leaves a v w (Changed b found u) at only = ap (λ (c : Bool). if c then u else w) (eq-eqb b a at) ∙ only at
leaves a v w _ at only = absurd at

-- the act stands in the list
abbrev pub Has : Act → List Act → Type 0
Has x [] = ⊥
Has x (y ∷ ys) = (y ≡ x) ⊎ Has x ys

-- what stands in one list stands in that list with another behind it
pub has_front : (x : Act) (xs ys : List Act) → Has x xs → Has x (xs ++ ys)
has_front x [] ys h = absurd h
has_front x (y ∷ xs) ys (inl e) = inl e
has_front x (y ∷ xs) ys (inr h) = inr (has_front x xs ys h)

-- and with another in front of it
pub has_back : (x : Act) (xs ys : List Act) → Has x ys → Has x (xs ++ ys)
has_back x [] ys h = h
has_back x (y ∷ xs) ys h = inr (has_back x xs ys h)

-- what holds of each act holds of one of them
pub every_has : (P : Act → Type 0) (x : Act) (xs : List Act) → Every P xs → Has x xs → P x
every_has P x [] h has = absurd has
every_has P x (y ∷ xs) h (inl e) = subst P e h.0
every_has P x (y ∷ xs) h (inr has) = every_has P x xs h.1 has

-- what is among the changes is among the acts
pub has_changes : (x : Act) (xs : List Act) → Has x (changes xs) → Has x xs
has_changes x [] h = h
has_changes x (Placed a n ∷ xs) (inr h) = inr (has_changes x xs h)
has_changes x (Stored a v ∷ xs) (inr h) = inr (has_changes x xs h)
has_changes x (Loaded a v ∷ xs) h = inr (has_changes x xs h)
has_changes x (Changed a found v ∷ xs) (inr h) = inr (has_changes x xs h)
has_changes x (Met n ∷ xs) h = inr (has_changes x xs h)
has_changes x (_ ∷ xs) (inl e) = inl e

module _ (P : Act → Type 0) where
  -- what holds of loads and calls, and of each change, holds of each act
  pub every_changes : ((a v : ℕ) → P (Loaded a v)) → ((n : ℕ) → P (Met n)) → (xs : List Act) → Every P (changes xs) → Every P xs
  every_changes loads calls [] h = tt
  every_changes loads calls (Loaded a v ∷ xs) h = (loads a v, every_changes loads calls xs h)
  every_changes loads calls (Met n ∷ xs) h = (calls n, every_changes loads calls xs h)
  every_changes loads calls (_ ∷ xs) h = (h.0, every_changes loads calls xs h.1)

  -- what holds of each act holds of each change
  pub every_changed : (xs : List Act) → Every P xs → Every P (changes xs)
  every_changed [] h = tt
  every_changed (Loaded a v ∷ xs) h = every_changed xs h.1
  every_changed (Met n ∷ xs) h = every_changed xs h.1
  every_changed (_ ∷ xs) h = (h.0, every_changed xs h.1)

-- what stands in the first elements stands in the list
pub taken : {X : Type 0} (n : ℕ) (xs : List X) (q : ℕ) (x : X) → slice_get (take n xs) q ≡ Some x → (q < n) × (slice_get xs q ≡ Some x)
taken zero xs q x e = absurd cc
taken (suc n) [] q x e = absurd cc
taken (suc n) (y ∷ xs) zero x e = (omega arith, e)
taken (suc n) (y ∷ xs) (suc q) x e = let h = taken n xs q x e in (omega (arith, h.0), h.1)

-- and the other way round, at a place among the first
pub takes : {X : Type 0} (n : ℕ) (xs : List X) (q : ℕ) (x : X) → q < n → slice_get xs q ≡ Some x → slice_get (take n xs) q ≡ Some x
takes zero xs q x less e = absurd (omega (arith, less))
takes (suc n) [] q x less e = e
takes (suc n) (y ∷ xs) zero x less e = e
takes (suc n) (y ∷ xs) (suc q) x less e = takes n xs q x (omega (arith, less)) e

-- a word's address, counted from the word before
next : (a q w : ℕ) → Stored (a + 1 + q) w ≡ Stored (a + suc q) w
next a q w = let same : a + 1 + q ≡ a + suc q = omega arith in ap (λ (b : ℕ). Stored b w) same

-- the first word's address
first : (a w : ℕ) → Stored a w ≡ Stored (a + 0) w
first a w = let same : a ≡ a + 0 = omega arith in ap (λ (b : ℕ). Stored b w) same

-- what holds of each store of some words holds of each act
every_stores : (P : Act → Type 0) (a : ℕ) (ws : List ℕ) (before : List Act) → ((q w : ℕ) → slice_get ws q ≡ Some w → P (Stored (a + q) w)) → Every P before → Every P (stores_from a ws before)
every_stores P a [] before each h = h
every_stores P a (w ∷ ws) before each h =
    every_stores P (a + 1) ws (Stored a w ∷ before) (λ q u e. subst P (sym (next a q u)) (each (suc q) u e)) (subst P (sym (first a w)) (each 0 w refl), h)

-- stores hide nothing that stands before them
has_kept : (x : Act) (a : ℕ) (ws : List ℕ) (before : List Act) → Has x before → Has x (stores_from a ws before)
has_kept x a [] before h = h
has_kept x a (w ∷ ws) before h = has_kept x (a + 1) ws (Stored a w ∷ before) (inr h)

-- each word is stored
has_stored : (a : ℕ) (ws : List ℕ) (before : List Act) (m v : ℕ) → slice_get ws m ≡ Some v → Has (Stored (a + m) v) (stores_from a ws before)
has_stored a [] before m v e = absurd cc
has_stored a (w ∷ ws) before zero v e =
    let same : w ≡ v = cc e in
    has_kept (Stored (a + 0) v) (a + 1) ws (Stored a w ∷ before) (inl (first a w ∙ ap (λ (u : ℕ). Stored (a + 0) u) same))
has_stored a (w ∷ ws) before (suc m) v e = subst (λ (x : Act). Has x (stores_from (a + 1) ws (Stored a w ∷ before))) (next a m v) (has_stored (a + 1) ws (Stored a w ∷ before) m v e)

-- what holds of a record's stores and of its place holds of each act of its append
pub every_appended : (P : Act → Type 0) (r : Appended) → ((q w : ℕ) → q < r.count → slice_get r.words q ≡ Some w → P (Stored (r.address + q) w)) → P (Placed r.address (length r.words)) → Every P (append_acts r)
every_appended P r each place =
    every_stores P r.address (take r.count r.words) (Placed r.address (length r.words) ∷ [])
    (λ q w e. let h = taken r.count r.words q w e in each q w h.0 h.1)
    (place, tt)

-- each word up to the count is stored
pub has_word : (r : Appended) (m v : ℕ) → m < r.count → slice_get r.words m ≡ Some v → Has (Stored (r.address + m) v) (append_acts r)
has_word r m v less e = has_stored r.address (take r.count r.words) (Placed r.address (length r.words) ∷ []) m v (takes r.count r.words m v less e)

-- the record is placed
pub has_placed : (r : Appended) → Has (Placed r.address (length r.words)) (append_acts r)
has_placed r = has_kept (Placed r.address (length r.words)) r.address (take r.count r.words) (Placed r.address (length r.words) ∷ []) (inl refl)

-- what holds of each act of each append holds of the acts of all these appends
pub every_records : (P : Act → Type 0) (rs : List Appended) → ((k : ℕ) (r : Appended) → slice_get rs k ≡ Some r → Every P (append_acts r)) → Every P (flat_map append_acts rs)
every_records P [] each = tt
every_records P (r ∷ rs) each = every_append P (append_acts r) (flat_map append_acts rs) (each 0 r refl) (every_records P rs (λ k s e. each (suc k) s e))

-- an act of one append is among those of all
pub has_record : (x : Act) (rs : List Appended) (k : ℕ) (r : Appended) → slice_get rs k ≡ Some r → Has x (append_acts r) → Has x (flat_map append_acts rs)
has_record x [] k r e h = absurd cc
has_record x (s ∷ rs) zero r e h =
    let same : s ≡ r = cc e in
    has_front x (append_acts s) (flat_map append_acts rs) (subst (λ (z : Appended). Has x (append_acts z)) (sym same) h)
has_record x (s ∷ rs) (suc k) r e h = has_back x (append_acts s) (flat_map append_acts rs) (has_record x rs k r e h)

-- if the act placed a record, that lies behind all that were placed before
abbrev pub Behind : List Act → Act → Type 0
Behind before (Placed a n) = Every (EndsBelow a) before
Behind before _ = Unit {0}

-- so does each record
abbrev pub Ordered : List Act → Type 0
Ordered [] = Unit {0}
Ordered (x ∷ before) = Behind before x × Ordered before

-- among the changes too
pub ordered_changes : (xs : List Act) → Ordered xs → Ordered (changes xs)
ordered_changes [] h = tt
ordered_changes (Placed a n ∷ xs) h = (every_changed (EndsBelow a) xs h.0, ordered_changes xs h.1)
ordered_changes (Loaded a v ∷ xs) h = ordered_changes xs h.1
ordered_changes (Met n ∷ xs) h = ordered_changes xs h.1
ordered_changes (_ ∷ xs) h = (tt, ordered_changes xs h.1)

-- the end of such a list is one
ordered_back : (xs ys : List Act) → Ordered (xs ++ ys) → Ordered ys
ordered_back [] ys h = h
ordered_back (x ∷ xs) ys h = ordered_back xs ys h.1

-- what was placed earlier ends below what was placed later
ordered_both : (a n : ℕ) (y : Act) (xs ys : List Act) → Ordered (xs ++ ys) → Has (Placed a n) xs → Has y ys → EndsBelow a y
ordered_both a n y [] ys h near far = absurd near
ordered_both a n y (x ∷ xs) ys h (inl e) far = every_has (EndsBelow a) y (xs ++ ys) (subst (Behind (xs ++ ys)) e h.0) (has_back y xs ys far)
ordered_both a n y (x ∷ xs) ys h (inr near) far = ordered_both a n y xs ys h.1 near far

-- so of two records of a thread the earlier, which stands further back, ends below the later
pub ordered_records : (rs : List Appended) (k l : ℕ) (r s : Appended) → Ordered (flat_map append_acts rs) → slice_get rs k ≡ Some r → slice_get rs l ≡ Some s → k < l → s.address + length s.words ≤ r.address
ordered_records [] k l r s h at_r at_s less = absurd cc
ordered_records (x ∷ rs) zero zero r s h at_r at_s less = absurd (omega (arith, less))
ordered_records (x ∷ rs) (suc k) zero r s h at_r at_s less = absurd (omega (arith, less))
ordered_records (x ∷ rs) zero (suc l) r s h at_r at_s less =
    let same : x ≡ r = cc at_r in
    let placed = Placed s.address (length s.words) in
    let near = subst (λ (z : Appended). Has (Placed r.address (length r.words)) (append_acts z)) (sym same) (has_placed r) in
    ordered_both r.address (length r.words) placed (append_acts x) (flat_map append_acts rs) h near (has_record placed rs l s at_s (has_placed s))
ordered_records (x ∷ rs) (suc k) (suc l) r s h at_r at_s less =
    ordered_records rs k l r s (ordered_back (append_acts x) (flat_map append_acts rs) h) at_r at_s (omega (arith, less))

-- An earlier store at one address for each at another
module _ (a v b : ℕ) where
  -- at or before each store at the second address this was stored at the first
  abbrev pub Preceded : List Act → Type 0
  Preceded [] = Unit {0}
  Preceded (x ∷ before) = (StoresAt b x → Has (Stored a v) (x ∷ before)) × Preceded before

  -- so it is where nothing is stored at the second
  pub preceded_none : (xs : List Act) → Every (λ (x : Act). StoresAt b x → ⊥) xs → Preceded xs
  preceded_none [] h = tt
  preceded_none (x ∷ xs) h = ((λ at. absurd (h.0 at)), preceded_none xs h.1)

  -- and in two such lists, one behind the other
  preceded_both : (xs ys : List Act) → Preceded xs → Preceded ys → Preceded (xs ++ ys)
  preceded_both [] ys h k = k
  preceded_both (x ∷ xs) ys h k = ((λ at. has_front (Stored a v) (x ∷ xs) ys (h.0 at)), preceded_both xs ys h.1 k)

  -- and in acts, if in their changes
  pub preceded_changes : (xs : List Act) → Preceded (changes xs) → Preceded xs
  preceded_changes [] h = tt
  preceded_changes (Placed c n ∷ xs) h = ((λ at. absurd at), preceded_changes xs h.1)
  preceded_changes (Loaded c w ∷ xs) h = ((λ at. absurd at), preceded_changes xs h)
  preceded_changes (Met n ∷ xs) h = ((λ at. absurd at), preceded_changes xs h)
  preceded_changes (t ∷ xs) h = ((λ at. has_changes (Stored a v) (t ∷ xs) (h.0 at)), preceded_changes xs h.1)

  -- and in all that is stored after the store at the first
  preceded_upon : (c : ℕ) (ws : List ℕ) (before : List Act) → Has (Stored a v) before → Preceded before → Preceded (stores_from c ws before)
  preceded_upon c [] before has h = h
  preceded_upon c (w ∷ ws) before has h = preceded_upon (c + 1) ws (Stored c w ∷ before) (inr has) ((λ at. inr has), h)

  -- and in the appends of many records, if in each
  pub preceded_records : (rs : List Appended) → ((k : ℕ) (r : Appended) → slice_get rs k ≡ Some r → Preceded (append_acts r)) → Preceded (flat_map append_acts rs)
  preceded_records [] each = tt
  preceded_records (r ∷ rs) each = preceded_both (append_acts r) (flat_map append_acts rs) (each 0 r refl) (preceded_records rs (λ k s e. each (suc k) s e))

  -- and in stores of words, of which the one comes before the other
  preceded_stores : (c : ℕ) (ws : List ℕ) (before : List Act) (l m : ℕ) → a ≡ c + l → b ≡ c + m → l ≤ m → ((w : ℕ) → slice_get ws l ≡ Some w → w ≡ v) → Preceded before → Preceded (stores_from c ws before)
  preceded_stores c [] before l m at_a at_b le is h = h
  preceded_stores c (w ∷ ws) before zero m at_a at_b le is h =
      let here : c ≡ a = omega (arith, at_a) in
      let has : Has (Stored a v) (Stored c w ∷ before) = inl (ap (λ (d : ℕ). Stored d w) here ∙ ap (λ (u : ℕ). Stored a u) (is w refl)) in
      preceded_upon (c + 1) ws (Stored c w ∷ before) has ((λ at. has), h)
  preceded_stores c (w ∷ ws) before (suc l) zero at_a at_b le is h = absurd (omega (arith, le))
  preceded_stores c (w ∷ ws) before (suc l) (suc m) at_a at_b le is h =
      preceded_stores (c + 1) ws (Stored c w ∷ before) l m (omega (arith, at_a)) (omega (arith, at_b)) (omega (arith, le)) is ((λ at. absurd (omega (arith, at_b, at))), h)

  -- so in an append
  pub preceded_appended : (r : Appended) (l m : ℕ) → a ≡ r.address + l → b ≡ r.address + m → l ≤ m → slice_get r.words l ≡ Some v → Preceded (append_acts r)
  preceded_appended r l m at_a at_b le is =
      preceded_stores r.address (take r.count r.words) (Placed r.address (length r.words) ∷ []) l m at_a at_b le (λ w e. same w (taken r.count r.words l w e).1) ((λ at. absurd at), tt)
    where
      same : (w : ℕ) → slice_get r.words l ≡ Some w → w ≡ v
      same w e = let both : Some w ≡ Some v = sym e ∙ is in cc both
