-- How failed writes are counted.
use Rattle.std.specs.Prelude.{ℕ, ◌+◌, ◌^◌, min}

-- a count of failures with one more; it stays at its last value
abbrev pub one_more : ℕ → ℕ
one_more failures = min (failures + 1) (2 ^ 62)
