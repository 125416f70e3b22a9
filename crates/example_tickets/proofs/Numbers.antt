-- Numbers of which no two are the same, and that lie from 1 to as many as they are: each number from 1 to that is one of them.
use Rattle.std.proofs.Common.{◌≡◌, ◌≢◌, ℕ, zero, suc, ◌+◌, ◌<◌, ◌≤◌, ◌⊎◌, Bool, true, false, cond, eqb, List, [], ◌∷◌, length, slice_index, refl, ap, sym, ◌∙◌, inl, inr, ⊎_elim, arith}
use Rattle.std.specs.List.{Contains}
use Rattle.std.proofs.lemmas.Bool.{eqb-true, eqb-false, eq-eqb, ne_eqb}

-- 1 where x is v, else 0
abbrev is : ℕ → ℕ → ℕ
is v x = cond (eqb x v) 1 0

abbrev occurs : ℕ → List ℕ → ℕ
occurs v [] = 0
occurs v (x ∷ xs) = is v x + occurs v xs

-- how often the numbers from 1 to n occur
abbrev in_all : ℕ → List ℕ → ℕ
in_all zero xs = 0
in_all (suc n) xs = in_all n xs + occurs (suc n) xs

abbrev inside : ℕ → ℕ → ℕ
inside zero x = 0
inside (suc n) x = inside n x + is (suc n) x

abbrev Apart : List ℕ → Type 0
Apart xs = (i j : ℕ) → i < j → j < length xs → slice_index xs i ≢ slice_index xs j

abbrev Within : ℕ → List ℕ → Type 0
Within n xs = (i : ℕ) → i < length xs → (1 ≤ slice_index xs i) × (slice_index xs i ≤ n)

yes : (v x : ℕ) → x ≡ v → is v x ≡ 1
yes v x e = ap (λ b. cond b 1 0) (eq-eqb x v e)

no : (v x : ℕ) → (x ≡ v → ⊥) → is v x ≡ 0
no v x h = ap (λ b. cond b 1 0) (ne_eqb x v h)

outside : (n x : ℕ) → n < x → inside n x ≡ 0
outside zero x h = refl
outside (suc n) x h = omega (arith, outside n x (omega (arith, h)), no (suc n) x (λ e. omega (arith, e, h)))

is_inside : (n x : ℕ) → 1 ≤ x → x ≤ n → inside n x ≡ 1
is_inside zero x a b = absurd (omega (arith, a, b))
is_inside (suc n) x a b = by_test (is_inside n x a) (eqb x (suc n)) refl
  where
    by_test : (x ≤ n → inside n x ≡ 1) → (t : Bool) → eqb x (suc n) ≡ t → inside (suc n) x ≡ 1
    by_test below true e =
        let same : x ≡ suc n = eqb-true x (suc n) e in
        omega (arith, outside n x (omega (arith, same)), yes (suc n) x same)
    by_test below false e =
        let other : x ≢ suc n = eqb-false x (suc n) e in
        omega (arith, below (omega (arith, b, other)), no (suc n) x other)

in_all-cons : (n x : ℕ) (xs : List ℕ) → in_all n (x ∷ xs) ≡ inside n x + in_all n xs
in_all-cons zero x xs = omega arith
in_all-cons (suc n) x xs = omega (arith, in_all-cons n x xs)

in_all-nil : (n : ℕ) → in_all n [] ≡ 0
in_all-nil zero = refl
in_all-nil (suc n) = omega (arith, in_all-nil n)

in_all-length : (n : ℕ) (xs : List ℕ) → Within n xs → in_all n xs ≡ length xs
in_all-length n [] h = in_all-nil n
in_all-length n (x ∷ xs) h =
    let first = h 0 (omega arith) in
    omega (arith, in_all-cons n x xs, is_inside n x first.0 first.1, in_all-length n xs (λ i less. h (suc i) (omega (arith, less))))

occurs-none : (v : ℕ) (xs : List ℕ) → ((i : ℕ) → i < length xs → slice_index xs i ≢ v) → occurs v xs ≡ 0
occurs-none v [] h = refl
occurs-none v (x ∷ xs) h = omega (arith, no v x (h 0 (omega arith)), occurs-none v xs (λ i less. h (suc i) (omega (arith, less))))

rest_apart : (x : ℕ) (xs : List ℕ) → Apart (x ∷ xs) → Apart xs
rest_apart x xs h i j less within = h (suc i) (suc j) (omega (arith, less)) (omega (arith, within))

occurs-once : (v : ℕ) (xs : List ℕ) → Apart xs → occurs v xs ≤ 1
occurs-once v [] h = omega arith
occurs-once v (x ∷ xs) h = by_test (occurs-once v xs (rest_apart x xs h)) (eqb x v) refl
  where
    by_test : occurs v xs ≤ 1 → (t : Bool) → eqb x v ≡ t → occurs v (x ∷ xs) ≤ 1
    by_test few true e =
        let same : x ≡ v = eqb-true x v e in
        omega (arith, yes v x same, occurs-none v xs (λ i less f. h 0 (suc i) (omega arith) (omega (arith, less)) (same ∙ sym f)))
    by_test few false e = omega (arith, no v x (eqb-false x v e), few)

at_most : (n : ℕ) (xs : List ℕ) → Apart xs → in_all n xs ≤ n
at_most zero xs h = omega arith
at_most (suc n) xs h = omega (arith, at_most n xs h, occurs-once (suc n) xs h)

misses : (n : ℕ) (xs : List ℕ) (k : ℕ) → Apart xs → occurs k xs ≡ 0 → 1 ≤ k → k ≤ n → in_all n xs + 1 ≤ n
misses zero xs k h none a b = absurd (omega (arith, a, b))
misses (suc n) xs k h none a b = by_test (misses n xs k h none a) (eqb k (suc n)) refl
  where
    by_test : (k ≤ n → in_all n xs + 1 ≤ n) → (t : Bool) → eqb k (suc n) ≡ t → in_all (suc n) xs + 1 ≤ suc n
    by_test below true e =
        let here : occurs (suc n) xs ≡ 0 = ap (λ m. occurs m xs) (sym (eqb-true k (suc n) e)) ∙ none in
        omega (arith, at_most n xs h, here)
    by_test below false e =
        let other : k ≢ suc n = eqb-false k (suc n) e in
        omega (arith, below (omega (arith, b, other)), occurs-once (suc n) xs h)

found : (k : ℕ) (xs : List ℕ) → Contains xs k ⊎ (occurs k xs ≡ 0)
found k [] = inr refl
found k (x ∷ xs) = by_test (found k xs) (eqb x k) refl
  where
    by_test : Contains xs k ⊎ (occurs k xs ≡ 0) → (t : Bool) → eqb x k ≡ t → Contains (x ∷ xs) k ⊎ (occurs k (x ∷ xs) ≡ 0)
    by_test others true e = inl (0, omega arith, eqb-true x k e)
    by_test others false e = ⊎_elim (λ c. inl (suc c.0, (let less = c.1 in omega arith), c.2)) (λ z. inr (omega (arith, z, no k x (eqb-false x k e)))) others

pub all_there : (xs : List ℕ) (n : ℕ) → length xs ≡ n → Within n xs → Apart xs → (k : ℕ) → 1 ≤ k → k ≤ n → Contains xs k
all_there xs n long within apart k a b =
    ⊎_elim (λ c. c) (λ z. absurd (omega (arith, long, in_all-length n xs within, misses n xs k apart z a b))) (found k xs)
