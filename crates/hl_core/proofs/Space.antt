-- The words that addresses can name are a whole number of pages.
use Rattle.std.proofs.Common.{◌≡◌, ℕ, zero, suc, ◌+◌, ◌*◌, ◌/◌, ◌%◌, ◌≤◌, ◌<◌, sym, ap, ◌∙◌, arith, inl, inr, ◌⊎◌}
use Rattle.std.specs.Prelude.{◌^◌, IsTrue, count_ones}
use Rattle.std.specs.Int.{is_power_of_two}
use Rattle.std.proofs.Math.Nat.{pow-suc, mul-div_cancel}
use Rattle.std.proofs.lemmas.Bool.{eqb-true, cases_eq}
use Rattle.std.proofs.lemmas.Nat.{zero_from_ones, ones_le_self}
use lib.Count.{ones_step}

-- a number with one digit set divides twice what its half divides
halved : (n e : ℕ) → count_ones n ≡ 1 → (count_ones (n / 2) ≡ 1 → (m : ℕ) × (m * (n / 2) ≡ e)) → ((n % 2 ≡ 0) ⊎ (n % 2 ≡ 0 → ⊥)) → (m : ℕ) × (m * n ≡ e * 2)
halved n e one half (inl even) =
    let part : (m : ℕ) × (m * (n / 2) ≡ e) = half (omega (arith, ones_step n)) in
    let m : ℕ = part.0 in
    let fits : m * (n / 2) ≡ e = part.1 in
    let twice : n ≡ n / 2 + n / 2 = omega arith in
    let each : m * n ≡ m * (n / 2 + n / 2) = ap (λ x. m * x) twice in
    let out : m * (n / 2 + n / 2) ≡ m * (n / 2) + m * (n / 2) = omega arith in
    (m, omega (arith, each, out, fits))
halved n e one half (inr odd) =
    let none : n / 2 ≡ 0 = zero_from_ones (n / 2) (omega (arith, odd, ones_step n)) in
    let single : n ≡ 1 = omega (arith, odd) in
    (e * 2, ap (λ x. e * 2 * x) single ∙ omega arith)

-- a number with one digit set divides each power of two that is at least as large
one_digit_divides : (k n : ℕ) → count_ones n ≡ 1 → n ≤ 2 ^ k → (m : ℕ) × (m * n ≡ 2 ^ k)
one_digit_divides zero n one h = (1, omega (arith, ones_le_self n))
one_digit_divides (suc k) n one h =
    let found : (m : ℕ) × (m * n ≡ 2 ^ k * 2) = halved n (2 ^ k) one (λ half. one_digit_divides k (n / 2) half (omega (arith, pow-suc 2 k))) (cases_eq (n % 2) 0) in
    (found.0, found.1 ∙ sym (pow-suc 2 k))

-- pages of a power of two words, up to 2^20, end at 2^48
pub whole_pages : (page_size : ℕ) → 0 < page_size → page_size ≤ 2 ^ 20 → IsTrue (is_power_of_two page_size) → 2 ^ 48 / page_size * page_size ≡ 2 ^ 48
whole_pages page_size some most power =
    let whole : (m : ℕ) × (m * page_size ≡ 2 ^ 48) = one_digit_divides 48 page_size (eqb-true (count_ones page_size) 1 power) (omega arith) in
    let count : 2 ^ 48 / page_size ≡ whole.0 = ap (λ n. n / page_size) (sym whole.1) ∙ mul-div_cancel whole.0 some in
    ap (λ n. n * page_size) count ∙ whole.1
