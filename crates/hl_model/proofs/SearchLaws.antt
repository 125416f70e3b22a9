-- Searches among numbers that count up.
use Rattle.std.proofs.Common.{◌≡◌, ℕ, zero, suc, ◌+◌, ◌*◌, ◌/◌, ◌<◌, ◌≤◌, Bool, true, false, Some, None, find, refl, arith, inl, inr}
use Rattle.std.specs.List.{range_with_len, prefix_len}
use Rattle.std.proofs.lemmas.Bool.{cases_eq, cases_lt}
use Rattle.std.proofs.Math.Nat.{mul-le-mul_left}

-- where no number passes, none is found
pub find-missing : (p : ℕ → Bool) (a n : ℕ) → ((q : ℕ) → a ≤ q → q < a + n → p q ≡ false) → find p (range_with_len a n) ≡ None
find-missing p a zero fails = refl
find-missing p a (suc n) fails =
    rw (fails a (omega arith) (omega arith)) (find-missing p (a + 1) n (λ q from to. fails q (omega arith) (omega arith)))

-- the first number that passes is found
pub find-first : (p : ℕ → Bool) (a n i : ℕ) → ((q : ℕ) → a ≤ q → q < i → p q ≡ false) → a ≤ i → i < a + n → p i ≡ true → find p (range_with_len a n) ≡ Some i
find-first p a zero i fails from to passes = absurd (omega arith)
find-first p a (suc n) i fails from to passes =
    elim (cases_eq a i) [
      | inl same ↦ rw (same, passes) refl
      | inr other ↦ rw (fails a (omega arith) (omega arith)) (find-first p (a + 1) n i (λ q above below. fails q (omega arith) below) (omega arith) (omega arith) passes)
    ]

-- where the numbers before one pass, and that one fails or ends the range, so many lead it
pub prefix_len-first : (p : ℕ → Bool) (a n i : ℕ) → ((q : ℕ) → a ≤ q → q < i → p q ≡ true) → a ≤ i → i ≤ a + n → (i < a + n → p i ≡ false) → a + prefix_len p (range_with_len a n) ≡ i
prefix_len-first p a zero i passes from to fails = omega arith
prefix_len-first p a (suc n) i passes from to fails =
    elim (cases_eq a i) [
      | inl same ↦ let first : p a ≡ false = rw same (fails (omega arith)) in rw first (omega arith)
      | inr other ↦
          let first : p a ≡ true = passes a (omega arith) (omega arith) in
          let later = prefix_len-first p (a + 1) n i (λ q above below. passes q (omega arith) below) (omega arith) (omega arith) (λ below. fails (omega arith)) in
          rw first (omega (arith, later))
    ]

-- what times n is at most x is at most x / n
pub le-div : (n k x : ℕ) → 0 < n → n * k ≤ x → k ≤ x / n
le-div n k x some h = elim (cases_lt (x / n) k) [
  | inl less ↦
      let step : x / n + 1 ≤ k = omega arith in
      let more : n * (x / n + 1) ≤ n * k = mul-le-mul_left n step in
      omega arith
  | inr most ↦ most
]
