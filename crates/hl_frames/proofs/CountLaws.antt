-- Sums and counts over numbers in a row.
use Rattle.std.proofs.Common.{◌≡◌, ℕ, zero, suc, ◌+◌, ◌-◌, ◌%◌, ◌<◌, ◌≤◌, Bool, true, false, cond, ltb, List, [], ◌∷◌, length, map, not, refl, sym, ap, ◌∙◌, arith, zero-add, add-zero, add-one}
use Rattle.std.specs.List.{range_with_len, sum_by, count_by}
use Rattle.std.proofs.lemmas.Bool.{lt-ltb, le-ltb}
use Rattle.std.proofs.lemmas.List.Sums.{sum_by-cons}
use Rattle.std.proofs.Math.Nat.{mod-eq_of_lt, add-mod_right}

-- one where a test is passed
abbrev pub one_if : Bool → ℕ
one_if b = cond b 1 0

-- the first number apart
sum-first : (f : ℕ → ℕ) (a n : ℕ) → sum_by f (range_with_len a (suc n)) ≡ f a + sum_by f (range_with_len (a + 1) n)
sum-first f a n = sum_by-cons f a (range_with_len (a + 1) n)

-- the last number apart
sum-last : (f : ℕ → ℕ) (a n : ℕ) → sum_by f (range_with_len a (suc n)) ≡ sum_by f (range_with_len a n) + f (a + n)
sum-last f a zero = omega (arith, sum-first f a zero, ap f (add-zero a))
sum-last f a (suc n) =
    let place : a + 1 + n ≡ a + suc n = omega arith in
    omega (arith, sum-first f a (suc n), sum-first f a n, sum-last f (a + 1) n, ap f place)

-- two rows, one behind the other
pub sum-split : (f : ℕ → ℕ) (a m n k : ℕ) → m + n ≡ k → sum_by f (range_with_len a k) ≡ sum_by f (range_with_len a m) + sum_by f (range_with_len (a + m) n)
sum-split f a m zero k e =
    let same : k ≡ m = omega arith in
    omega (arith, ap (λ j. sum_by f (range_with_len a j)) same)
sum-split f a m (suc n) k e =
    let next : k ≡ suc (m + n) = omega arith in
    let place : a + (m + n) ≡ a + m + n = omega arith in
    omega (arith, ap (λ j. sum_by f (range_with_len a j)) next, sum-last f a (m + n), sum-split f a m n (m + n) refl, sum-last f (a + m) n, ap f place)

-- equal numbers have equal sums
pub sum-same : (f g : ℕ → ℕ) (a n : ℕ) → ((k : ℕ) → a ≤ k → k < a + n → f k ≡ g k) → sum_by f (range_with_len a n) ≡ sum_by g (range_with_len a n)
sum-same f g a zero same = refl
sum-same f g a (suc n) same =
    omega (arith, sum-last f a n, sum-last g a n, sum-same f g a n (λ k from below. same k from (omega arith)), same (a + n) (omega arith) (omega arith))

-- where two add up to a third, so do their sums
pub sum-plus : (f g h : ℕ → ℕ) (a n : ℕ) → ((k : ℕ) → a ≤ k → k < a + n → f k + g k ≡ h k) → sum_by f (range_with_len a n) + sum_by g (range_with_len a n) ≡ sum_by h (range_with_len a n)
sum-plus f g h a zero both = refl
sum-plus f g h a (suc n) both =
    omega (arith, sum-last f a n, sum-last g a n, sum-last h a n, sum-plus f g h a n (λ k from below. both k from (omega arith)), both (a + n) (omega arith) (omega arith))

-- nothing adds up to nothing
pub sum-none : (f : ℕ → ℕ) (a n : ℕ) → ((k : ℕ) → a ≤ k → k < a + n → f k ≡ 0) → sum_by f (range_with_len a n) ≡ 0
sum-none f a zero none = refl
sum-none f a (suc n) none =
    omega (arith, sum-last f a n, sum-none f a n (λ k from below. none k from (omega arith)), none (a + n) (omega arith) (omega arith))

-- and n times one to n
pub sum-ones : (f : ℕ → ℕ) (a n : ℕ) → ((k : ℕ) → a ≤ k → k < a + n → f k ≡ 1) → sum_by f (range_with_len a n) ≡ n
sum-ones f a zero one = refl
sum-ones f a (suc n) one =
    omega (arith, sum-last f a n, sum-ones f a n (λ k from below. one k from (omega arith)), one (a + n) (omega arith) (omega arith))

-- n numbers in a row have each remainder by n once
pub sum-window : (g : ℕ → ℕ) (n a : ℕ) → sum_by (λ q. g (q % n)) (range_with_len a n) ≡ sum_by g (range_with_len 0 n)
sum-window g n zero = sum-same (λ q. g (q % n)) g 0 n (λ k from below. ap g (mod-eq_of_lt (omega arith)))
sum-window g n (suc a) =
    let f = λ (q : ℕ). g (q % n) in
    omega (arith, sum-first f a n, sum-last f a n, ap g (add-mod_right a n), sum-window g n a, ap (λ m. sum_by f (range_with_len m n)) (add-one a))

-- the numbers below s
pub count-below : (s n : ℕ) → s ≤ n → count_by (λ q. ltb q s) (range_with_len 0 n) ≡ s
count-below s n within =
    let f = λ (q : ℕ). one_if (ltb q s) in
    let below = sum-ones f 0 s (λ k from less. ap one_if (lt-ltb k s (omega arith))) in
    let above = sum-none f (0 + s) (n - s) (λ k from less. ap one_if (le-ltb k s (omega arith))) in
    omega (arith, sum-split f 0 s (n - s) n (omega arith), below, above)

-- as many pass where the same do
pub count-same : (p p' : ℕ → Bool) (n : ℕ) → ((k : ℕ) → p' k ≡ p k) → count_by p' (range_with_len 0 n) ≡ count_by p (range_with_len 0 n)
count-same p p' n same = sum-same (λ k. one_if (p' k)) (λ k. one_if (p k)) 0 n (λ k from below. ap one_if (same k))

-- with a number more that doesn't pass
pub count-next : (p p' : ℕ → Bool) (n m : ℕ) → m ≡ n + 1 → ((k : ℕ) → p' k ≡ p k) → p n ≡ false → count_by p' (range_with_len 0 m) ≡ count_by p (range_with_len 0 n)
count-next p p' n m next same fails =
    let f = λ (k : ℕ). one_if (p k) in
    let is : m ≡ suc n = omega arith in
    omega (arith, count-same p p' m same, ap (λ j. sum_by f (range_with_len 0 j)) is, sum-last f 0 n, ap f (zero-add n), ap one_if fails)

-- and one more where a number passes that didn't
pub count-more : (p p' : ℕ → Bool) (x n : ℕ) → x < n → ((k : ℕ) → (k ≡ x → ⊥) → p' k ≡ p k) → p x ≡ false → p' x ≡ true → count_by p' (range_with_len 0 n) ≡ count_by p (range_with_len 0 n) + 1
count-more p p' x n within same was is =
    let f = λ (k : ℕ). one_if (p k) in
    let f' = λ (k : ℕ). one_if (p' k) in
    let rest : ℕ = n - (x + 1) in
    let before = sum-same f' f 0 x (λ k from below. ap one_if (same k (λ at. omega arith))) in
    let behind = sum-same f' f (0 + (x + 1)) rest (λ k from below. ap one_if (same k (λ at. omega arith))) in
    let here' = sum-last f' 0 x in
    let here = sum-last f 0 x in
    omega (arith, sum-split f' 0 (x + 1) rest n (omega arith), sum-split f 0 (x + 1) rest n (omega arith), before, behind, here, here', ap (λ j. sum_by f (range_with_len 0 j)) (add-one x), ap (λ j. sum_by f' (range_with_len 0 j)) (add-one x), ap f (zero-add x), ap f' (zero-add x), ap one_if was, ap one_if is)

-- a count over images
pub count-map : {X Y : Type 0} (p : Y → Bool) (h : X → Y) (xs : List X) → count_by p (map h xs) ≡ sum_by (λ x. one_if (p (h x))) xs
count-map p h [] = refl
count-map p h (x ∷ xs) =
    sum_by-cons (λ y. one_if (p y)) (h x) (map h xs)
    ∙ ap (λ n. one_if (p (h x)) + n) (count-map p h xs)
    ∙ sym (sum_by-cons (λ z. one_if (p (h z))) x xs)

one-not : (b : Bool) → one_if b + one_if (not b) ≡ 1
one-not true = refl
one-not false = refl

-- each element passes, or passes not
pub count-not : {X : Type 0} (p : X → Bool) (xs : List X) → count_by p xs + count_by (λ x. not (p x)) xs ≡ length xs
count-not p [] = refl
count-not p (x ∷ xs) =
    omega (arith, sum_by-cons (λ z. one_if (p z)) x xs, sum_by-cons (λ z. one_if (not (p z))) x xs, one-not (p x), count-not p xs)
