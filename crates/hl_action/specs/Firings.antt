-- When an action is run.
use Rattle.std.specs.Prelude.{ℕ, ◌<◌, ◌≤◌, ◌^◌}

-- the ticket of the action that is run, and the safe epoch when it was taken
pub record FiringRecord : Type 0 where
  pub ticket : ℕ
  pub safe : ℕ

-- the ticket is safe, and the safe epoch is below the last epoch
abbrev pub IsSafe : FiringRecord → Type 0
IsSafe f = (f.ticket ≤ f.safe) × (f.safe < 2 ^ 62)
