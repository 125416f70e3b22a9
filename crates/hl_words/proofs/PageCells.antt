-- The cells of a page.
use Rattle.std.proofs.Common.{ℕ, ◌+◌, ◌*◌, ◌^◌, ◌%◌, ◌<◌, ◌≤◌, arith}
use Rattle.std.proofs.Math.Nat.{mul-le-mul_right, mul-le-mul_left, add-mul}
use Rattle.std.proofs.lemmas.Nat.{mod_below}

-- a page's cells are cells
pub page_fits : (page_size frames p : ℕ) → 0 < frames → p % frames * page_size + page_size ≤ frames * page_size
page_fits page_size frames p some =
    let lt : p % frames + 1 ≤ frames = omega (arith, mod_below p frames some) in
    omega (arith, mul-le-mul_right page_size lt, add-mul (p % frames) 1 page_size)

-- and there are few of them
pub page_few : (page_size frames p : ℕ) → 2 ≤ frames → frames ≤ 2 ^ 16 → page_size ≤ 2 ^ 20 → p % frames * page_size + page_size ≤ 2 ^ 36
page_few page_size frames p some f g =
    omega (arith, page_fits page_size frames p (omega arith), mul-le-mul_right page_size f, mul-le-mul_left (2 ^ 16) g)
