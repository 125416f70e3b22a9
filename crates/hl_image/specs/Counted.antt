-- A writer of lines as callers see it.
use Rattle.std.specs.Prelude.{ℕ}

-- where the lines go, and how many writes failed
pub record Counted (W : Type 0) : Type 0 where
  pub writer : W
  pub failures : ℕ
