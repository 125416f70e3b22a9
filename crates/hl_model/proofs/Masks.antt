-- A remainder by a power of two, read off the low bits.
use Rattle.std.proofs.Common.{◌≡◌, ℕ, zero, suc, ◌+◌, ◌-◌, ◌*◌, ◌/◌, ◌%◌, ◌^◌, ◌≤◌, arith, inl, inr}
use Rattle.std.specs.Prelude.{bit_and, count_ones, IsTrue}
use Rattle.std.specs.Int.{is_power_of_two}
use Rattle.std.proofs.lemmas.Bool.Decides.{eqb_tells}
use Rattle.std.proofs.lemmas.Bool.{cases_eq}
use Rattle.std.proofs.lemmas.Nat.{and_mask, ones_le_self, zero_from_ones}
use Rattle.std.proofs.Math.Nat.{pow-suc}
use Rattle.std.proofs.Math.Arith.{mod-mul}
use lib.Count.{ones_step}

-- a number with one digit set, at most d, is a power of two
power_of : (d n : ℕ) → n ≤ d → count_ones n ≡ 1 → (k : ℕ) × (n ≡ 2 ^ k)
power_of zero n most one = absurd (omega (arith, ones_le_self n))
power_of (suc d) n most one =
    let step = ones_step n in
    elim (cases_eq (n % 2) 1) [
      | inl odd ↦
          let half : n / 2 ≡ 0 = zero_from_ones (n / 2) (omega arith) in
          (0, omega arith)
      | inr even ↦
          let smaller = power_of d (n / 2) (omega arith) (omega arith) in
          (suc smaller.0, omega (arith, smaller.1, pow-suc 2 smaller.0))
    ]

-- what the low bits tell
pub remainder_is : (page_size x : ℕ) → IsTrue (is_power_of_two page_size) → bit_and x (page_size - 1) ≡ x % page_size
remainder_is page_size x power =
    elim (eqb_tells (count_ones page_size) 1) [
      | inl one ↦
          let found = power_of page_size page_size (omega arith) one.1 in
          rw found.1 (and_mask x found.0)
      | inr other ↦ let never = rw other.0 at power in absurd cc
    ]

-- the place of an address among the words of all frames is its remainder by their number
pub place_is : (page_size frames a : ℕ) → 1 ≤ page_size → 1 ≤ frames → a % (frames * page_size) ≡ a / page_size % frames * page_size + a % page_size
place_is page_size frames a p f = mod-mul a f p
