-- The jobs of a script's commands.
use Rattle.std.specs.Prelude.{ℕ, ◌<◌}
use Rattle.hl_action.specs.Firings.{FiringRecord}
use Rattle.hl_action.specs.Jobs.{CanBeCalled, AnswersKeep}
use Rattle.hl_script.specs.Fast.{adds}

-- what is made for a tag below 1000 is a job that can be called, and answers the tag + the ticket
abbrev pub MakesSums : {F : Type 0} → (F → FiringRecord → Type 0) → (F → FiringRecord → ℕ → Type 0)
    → (ℕ → F → Type 0) → Type 0
MakesSums {F} can gives made = (tag : ℕ) (job : F) → tag < 1000 → made tag job
    → CanBeCalled (can job) × AnswersKeep (gives job) (adds tag)
