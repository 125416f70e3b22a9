-- Numbers with one remainder: the pages of a frame, the epochs of a place.
use Rattle.std.proofs.Common.{◌≡◌, ℕ, ◌+◌, ◌*◌, ◌/◌, ◌%◌, ◌<◌, ◌≤◌, inl, inr, ◌⊎◌, arith}
use Rattle.std.proofs.Math.Nat.{mul-le-mul_left, div-add-mod}
use Rattle.std.proofs.lemmas.Bool.{cases_lt}

-- of two numbers with one remainder the greater is at least n above the other
pub mod-apart : (a b n : ℕ) → a % n ≡ b % n → a < b → a + n ≤ b
mod-apart a b n same lt = by_order (cases_lt (a / n) (b / n))
  where
    by_order : ((a / n < b / n) ⊎ (b / n ≤ a / n)) → a + n ≤ b
    by_order (inl less) =
        let upper : a / n + 1 ≤ b / n = omega arith in
        let step : n * (a / n + 1) ≤ n * (b / n) = mul-le-mul_left n upper in
        let more : n * (a / n + 1) ≡ n * (a / n) + n = omega arith in
        omega (arith, div-add-mod a n, div-add-mod b n)
    by_order (inr le) =
        let step : n * (b / n) ≤ n * (a / n) = mul-le-mul_left n le in
        absurd (omega (arith, div-add-mod a n, div-add-mod b n))
