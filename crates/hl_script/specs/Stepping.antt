-- What makes the steps of a script, and what it does with one.
use Rattle.std.specs.Prelude.{◌≡◌, ℕ, Bool, true, false, is_none, Option, Some, None, Result, Ok, Err, List, [], ◌∷◌, ◌++◌}
use Rattle.std.specs.Io.KnownBytes.{Appends}
use Rattle.hl_model.specs.declared.fault.Fault.{Fault}
use Rattle.hl_model.specs.declared.fault.Fault.TheVariants.{OutOfMemory, Stream}
use Rattle.hl_model.specs.declared.step.Reply.{Reply}
use Rattle.hl_model.specs.declared.step.Step.{Step}
use Rattle.hl_model.specs.Sizes.{Sizes}
use Rattle.hl_line.specs.Streams.{BreaksOff}
use Rattle.hl_line.specs.declared.line.Line.TheVariants.{Step as Makes}
use Rattle.hl_script.specs.Answers.{line_fault, line_reply, result_text, with_line}

-- it stands at some accepted steps
abbrev pub IsStanding : ((ℕ → Bool) → Sizes → List Step → Type 0) → Type 0
IsStanding stands = (has : ℕ → Bool) × (sizes : Sizes) × (A : List Step) × stands has sizes A

-- what stood at the accepted steps A answered one more; or memory was refused, and it stands as before
abbrev pub Stepped : ((ℕ → Bool) → Sizes → List Step → Type 0) → Bool → (ℕ → Bool) → Sizes → List Step → Step
    → Option (Result Reply Fault) → Type 0
Stepped stands may_lack has sizes A step None = stands has sizes A × (may_lack ≡ true)
Stepped stands may_lack has sizes A step (Some result) =
    (result ≡ line_reply has sizes A step) × stands has sizes (with_line has sizes A (Makes step))

-- the answer to a step after A was written in a line, or the first bytes of that line; or memory was refused
abbrev pub StepAnswers : ((ℕ → Bool) → Sizes → List Step → Type 0) → Bool → (ℕ → Bool) → Sizes → List Step
    → Step → Option (List ℕ) → Option (List ℕ) → Result Bool Fault → Type 0
StepAnswers stands may_lack has sizes A step old new (Ok counted) =
    Appends old new (result_text (line_reply has sizes A step) ++ 10 ∷ [])
    × stands has sizes (with_line has sizes A (Makes step))
    × (counted ≡ is_none (line_fault has sizes A step))
StepAnswers stands may_lack has sizes A step old new (Err OutOfMemory) =
    Appends old new [] × (may_lack ≡ true)
StepAnswers stands may_lack has sizes A step old new (Err Stream) =
    BreaksOff old new (result_text (line_reply has sizes A step) ++ 10 ∷ [])
StepAnswers stands may_lack has sizes A step old new (Err _) = ⊥

-- these bytes were written in a line, the answer to what is no step, or the first bytes of that line
abbrev pub QueryAnswers : List ℕ → Option (List ℕ) → Option (List ℕ) → Result Bool Fault → Type 0
QueryAnswers bytes old new (Ok counted) = Appends old new (bytes ++ 10 ∷ []) × (counted ≡ false)
QueryAnswers bytes old new (Err Stream) = BreaksOff old new (bytes ++ 10 ∷ [])
QueryAnswers bytes old new (Err _) = ⊥
