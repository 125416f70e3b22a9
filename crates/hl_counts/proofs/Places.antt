-- The place of an epoch that lies before another, by less than the ring is long.
use Rattle.std.proofs.Common.{◌≡◌, ℕ, zero, suc, ◌+◌, ◌-◌, ◌*◌, ◌/◌, ◌%◌, ◌<◌, ◌≤◌, arith}
use Rattle.std.proofs.lemmas.Nat.{div-add-mod', mod-mul-add}

-- so many epochs back, where no end of the ring lies between
pub mod-back : (e back n : ℕ) → 0 < n → back ≤ e % n → (e - back) % n ≡ e % n - back
mod-back e back n some within =
    let apart : e - back ≡ e / n * n + (e % n - back) = omega (arith, div-add-mod' e n) in
    rw apart (mod-mul-add (e / n) n (e % n - back) (omega arith))

-- so many epochs back, over the end of the ring
pub mod-back_over : (e back n : ℕ) → 0 < n → back ≤ e → e % n < back → back < n → (e - back) % n ≡ e % n + n - back
mod-back_over e back n some most over below = by_turns (e / n) (div-add-mod' e n)
  where
    by_turns : (q : ℕ) → q * n + e % n ≡ e → (e - back) % n ≡ e % n + n - back
    by_turns zero is = absurd (omega arith)
    by_turns (suc q) is =
        let apart : e - back ≡ q * n + (e % n + n - back) = omega arith in
        rw apart (mod-mul-add q n (e % n + n - back) (omega arith))
