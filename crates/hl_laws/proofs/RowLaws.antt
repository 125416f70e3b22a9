-- Laws of what is told of each of n slots, in order.
use Rattle.std.proofs.Common.{subst, ◌⊎◌, ◌≡◌, ℕ, zero, suc, ◌+◌, ◌<◌, ◌≤◌, ◌≢◌, List, get_or, refl, sym, ap, ◌∙◌, arith, map, set, length-set, get_or-set_same, get_or-set_other, zero-add, inl, inr}
use Rattle.std.specs.Prelude.{Option, Some, None}
use Rattle.std.specs.List.{AllByRecursion, filter_map, cons_option, range_with_len}
use Rattle.std.proofs.lemmas.List.{same_lists}
use Rattle.std.proofs.lemmas.List.FromFn.{length-map-range_with_len, get_or-map-range_with_len}
use Rattle.std.proofs.lemmas.Bool.{cases_eq}

-- what is told of slot t
pub row_at : {X : Type 0} (f : ℕ → X) (n t : ℕ) (d : X) → t < n → get_or (map f (range_with_len 0 n)) t d ≡ f t
row_at f n t d h = get_or-map-range_with_len f 0 n t t d h (zero-add t)

-- the same of each of the n slots is the same row
pub rows_within : {X : Type 0} (f g : ℕ → X) (n : ℕ) → ((t : ℕ) → t < n → f t ≡ g t) → map f (range_with_len 0 n) ≡ map g (range_with_len 0 n)
rows_within f g n h = same_lists (map f (range_with_len 0 n)) (map g (range_with_len 0 n))
    (length-map-range_with_len f 0 n ∙ sym (length-map-range_with_len g 0 n))
    (λ k d lt. let here : k < n = omega (arith, length-map-range_with_len f 0 n) in row_at f n k d here ∙ h k here ∙ sym (row_at g n k d here))

-- and so is the same of each slot
pub rows_same : {X : Type 0} (f g : ℕ → X) (n : ℕ) → ((t : ℕ) → f t ≡ g t) → map f (range_with_len 0 n) ≡ map g (range_with_len 0 n)
rows_same f g n h = rows_within f g n (λ t lt. h t)

-- another value at slot i alone is one place of the row set
pub rows_set : {X : Type 0} (f g : ℕ → X) (n i : ℕ) (v : X) → f i ≡ v → ((t : ℕ) → (t ≢ i) → f t ≡ g t) → map f (range_with_len 0 n) ≡ set (map g (range_with_len 0 n)) i v
rows_set f g n i v at others = same_lists (map f (range_with_len 0 n)) (set (map g (range_with_len 0 n)) i v)
    (length-map-range_with_len f 0 n ∙ sym (length-set (map g (range_with_len 0 n)) i v ∙ length-map-range_with_len g 0 n))
    (λ k d lt. let here : k < n = omega (arith, length-map-range_with_len f 0 n) in place k d here (cases_eq k i))
  where
    place : (k : ℕ) (d : _) → k < n → ((k ≡ i) ⊎ (k ≢ i)) → get_or (map f (range_with_len 0 n)) k d ≡ get_or (set (map g (range_with_len 0 n)) i v) k d
    place k d here (inl e) =
        row_at f n k d here ∙ ap f e ∙ at
        ∙ sym (ap (λ j. get_or (set (map g (range_with_len 0 n)) i v) j d) e ∙ get_or-set_same (map g (range_with_len 0 n)) i v d (omega (arith, length-map-range_with_len g 0 n)))
    place k d here (inr ne) =
        row_at f n k d here ∙ others k ne ∙ sym (get_or-set_other (map g (range_with_len 0 n)) i k v d ne ∙ row_at g n k d here)

cons_all : (P : ℕ → Type 0) (o : Option ℕ) (xs : List ℕ) → ((e : ℕ) → o ≡ Some e → P e) → AllByRecursion P xs → AllByRecursion P (cons_option o xs)
cons_all P None xs h a = a
cons_all P (Some e) xs h a = (h e refl, a)

-- what holds of each slot's number holds of all the numbers
pub each-all : (P : ℕ → Type 0) (f : ℕ → Option ℕ) (a n : ℕ) → ((t e : ℕ) → a ≤ t → t < a + n → f t ≡ Some e → P e) → AllByRecursion P (filter_map (λ x. x) (map f (range_with_len a n)))
each-all P f a zero h = tt
each-all P f a (suc n) h =
    cons_all P (f a) (filter_map (λ x. x) (map f (range_with_len (a + 1) n))) (λ e is. h a e (omega arith) (omega arith) is)
    (each-all P f (a + 1) n (λ t e low high is. h t e (omega arith) (omega arith) is))

cons_first : (P : ℕ → Type 0) (o : Option ℕ) (xs : List ℕ) (e : ℕ) → o ≡ Some e → AllByRecursion P (cons_option o xs) → P e
cons_first P None xs e h a = cc
cons_first P (Some x) xs e h a = let same : x ≡ e = cc in subst P same a.0

cons_rest : (P : ℕ → Type 0) (o : Option ℕ) (xs : List ℕ) → AllByRecursion P (cons_option o xs) → AllByRecursion P xs
cons_rest P None xs a = a
cons_rest P (Some x) xs a = a.1

first_or_later : (P : ℕ → Type 0) (f : ℕ → Option ℕ) (a t e : ℕ) (xs : List ℕ) → f t ≡ Some e → AllByRecursion P (cons_option (f a) xs) → (t ≢ a → P e) → ((t ≡ a) ⊎ (t ≢ a)) → P e
first_or_later P f a t e xs is all later (inl same) = cons_first P (f a) xs e (ap f (sym same) ∙ is) all
first_or_later P f a t e xs is all later (inr ne) = later ne

-- what holds of all the numbers holds of each slot's
pub all-each : (P : ℕ → Type 0) (f : ℕ → Option ℕ) (a n : ℕ) → AllByRecursion P (filter_map (λ x. x) (map f (range_with_len a n))) → (t e : ℕ) → a ≤ t → t < a + n → f t ≡ Some e → P e
all-each P f a zero all t e low high is = absurd (omega arith)
all-each P f a (suc n) all t e low high is =
    first_or_later P f a t e (filter_map (λ x. x) (map f (range_with_len (a + 1) n))) is all
    (λ ne. all-each P f (a + 1) n (cons_rest P (f a) (filter_map (λ x. x) (map f (range_with_len (a + 1) n))) all) t e (omega arith) (omega arith) is)
    (cases_eq t a)
