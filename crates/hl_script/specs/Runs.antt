-- When what makes the steps of a script stands at the script's lines, and what a run of the script leads to.
use Rattle.std.specs.Prelude.{◌≡◌, ℕ, Bool, Option, Some, None, Result, List, [], ◌∷◌}
use Rattle.hl_model.specs.declared.fault.Fault.{Fault}
use Rattle.hl_model.specs.declared.step.Step.{Step}
use Rattle.hl_model.specs.Sizes.{Sizes}
use Rattle.hl_model.specs.Headline.{Headline}
use Rattle.hl_cells.specs.Engines.{Whole, EngineStands}
use Rattle.hl_line.specs.declared.line.Line.{Line}
use Rattle.hl_line.specs.declared.line.Line.TheVariants.{Config}
use Rattle.hl_script.specs.Lines.{takes_memory}
use Rattle.hl_script.specs.Answers.{sizes_of, accepted}
use Rattle.hl_script.specs.Text.{count_of}
use Rattle.hl_script.specs.Outcomes.{WroteUpTo, TextRan}

-- it stands at the accepted steps of some lines, of which the first is a config
pub record StandsAt (stands : (ℕ → Bool) → Sizes → List Step → Type 0) (has : ℕ → Bool) (before : List Line)
    : Type 0 where
  pub given : Sizes
  pub others : List Line
  pub first : before ≡ Config given ∷ others
  pub standing : stands has (sizes_of before) (accepted has before)

-- what is left at the end of some lines: nothing where there is none, else what stands at their accepted
-- steps, and how many these are
abbrev pub EndsAt : {S : Type 0} → (S → (ℕ → Bool) → Sizes → List Step → Type 0) → (ℕ → Bool) → List Line
    → Option (S × ℕ) → Type 0
EndsAt stands has lines None = lines ≡ []
EndsAt stands has lines (Some end) =
    (count_of has lines ≡ Some end.1) × stands end.0 has (sizes_of lines) (accepted has lines)

-- what a run of a script led to
abbrev pub ScriptRan : {S : Type 0} → (S → (ℕ → Bool) → Sizes → List Step → Type 0) → Bool → (ℕ → Bool) → ℕ
    → Option (List ℕ) → Option (List ℕ) → Option (List ℕ) → Option (List ℕ) → Result (Option (S × ℕ)) Fault
    → Type 0
ScriptRan stands may_lack has reads given left from to ended =
    TextRan has reads given left from to (WroteUpTo has (takes_memory may_lack) from to)
    (EndsAt stands has) ended

-- an engine stands at the accepted steps of these lines, which keep the headline
pub record IsLeft {F : Type 0} (engine : Whole F) (has : ℕ → Bool) (lines : List Line) : Type 0 where
  pub standing : EngineStands engine (accepted has lines)
  pub sizes : engine.core.sizes ≡ sizes_of lines
  pub headline : Headline (sizes_of lines) (accepted has lines)
