-- When an engine and a shelf of jobs stand at the accepted steps of a script.
use Rattle.std.specs.Prelude.{◌≡◌, ℕ, ◌+◌, Bool, not, Option, List}
use Rattle.hl_model.specs.declared.step.Step.{Step}
use Rattle.hl_model.specs.declared.step.Step.TheVariants.{Bump}
use Rattle.hl_model.specs.Sizes.{Sizes, AreNarrow}
use Rattle.hl_cells.specs.Engines.{Whole, EngineStands}
use Rattle.hl_line.specs.declared.line.Line.{Line}
use Rattle.hl_action.specs.Firings.{FiringRecord}
use Rattle.hl_action.specs.Jobs.{KeptRecord}
use Rattle.hl_script.specs.Answers.{lacks_job}
use Rattle.hl_script.specs.Text.{tags_on}
use Rattle.hl_script.specs.Runs.{StandsAt}

-- a job answers its tag + its ticket
abbrev pub adds : ℕ → FiringRecord → ℕ → Type 0
adds tag firing answer = answer ≡ tag + firing.ticket

-- the jobs on a shelf are those that no accepted bump took
abbrev pub AreLeft : {F : Type 0} → (ℕ → Bool) → List Step → List (Option (KeptRecord F)) → Type 0
AreLeft has A shelf = (tag : ℕ) → tags_on shelf tag ≡ not (lacks_job has A (Bump tag))

-- the engine of narrow sizes stands at the steps, and the shelf has the jobs that are left
pub record IsFast {F : Type 0} (shelf : List (Option (KeptRecord F))) (engine : Whole F) (has : ℕ → Bool)
    (sizes : Sizes) (A : List Step) : Type 0 where
  pub sizes_is : engine.core.sizes ≡ sizes
  pub narrow : AreNarrow sizes
  pub standing : EngineStands engine A
  pub left : AreLeft has A shelf

-- the same at the accepted steps of these lines, of which the first is the config
abbrev pub FastStands : {F : Type 0} → List (Option (KeptRecord F)) → Whole F → (ℕ → Bool) → List Line
    → Type 0
FastStands shelf engine has before = StandsAt (IsFast shelf engine) has before
