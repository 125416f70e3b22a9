-- How many digits a number has.
use Rattle.std.proofs.Common.{ℕ, ◌^◌, ◌<◌, ◌≤◌, length, decimal, arith, lit<}
use Rattle.std.proofs.lemmas.Fmt.{length-decimal-le}

-- a number of 64 bits has at most 20
pub decimal_short : (n : ℕ) → n < 2 ^ 64 → length (decimal n) ≤ 20
decimal_short n h = length-decimal-le 20 n (lit< tt) (omega arith) h
