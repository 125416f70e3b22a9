-- Stored jobs, and actions ready to be run.
use Rattle.std.specs.Prelude.{ℕ, ◌<◌, ◌^◌, Option}
use Rattle.hl_action.specs.Firings.{FiringRecord, IsSafe}

-- a job with the tag that it is stored under
pub record KeptRecord (F : Type 0) : Type 0 where
  pub tag : ℕ
  pub job : F

-- an action to be run: whose it is, its firing, and its job, if it has one
pub record ReadyRecord (F : Type 0) : Type 0 where
  pub origin : ℕ
  pub firing : FiringRecord
  pub kept : Option (KeptRecord F)

-- a job that can be called on every firing
abbrev pub CanBeCalled : (FiringRecord → Type 0) → Type 0
CanBeCalled can = (firing : FiringRecord) → IsSafe firing → can firing

-- whatever a job gives for a firing keeps the promise
abbrev pub AnswersKeep : (FiringRecord → ℕ → Type 0) → (FiringRecord → ℕ → Type 0) → Type 0
AnswersKeep gives keeps =
    (firing : FiringRecord) (answer : ℕ) → IsSafe firing → answer < 2 ^ 64 → gives firing answer
    → keeps firing answer
