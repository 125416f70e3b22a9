-- A usual line at the front is found, and its LF is where it ends.
use Rattle.std.proofs.Common.{◌≡◌, ◌≢◌, ℕ, ◌+◌, ◌-◌, true, false, List, [], ◌∷◌, ◌++◌, length, length-append, ap, ◌∙◌, arith}
use Rattle.std.specs.List.{All}
use Rattle.std.proofs.lemmas.List.Elements.{All-head, All-tail}
use Rattle.hl_model.specs.declared.step.Step.{Step}
use Rattle.hl_model.specs.declared.step.Step.TheVariants.{Refresh, Take, Done, Allocate, Look, Write, Read, FlushTake, FlushDone, CleanTake, CleanDone}
use Rattle.hl_line.specs.declared.line.Line.{Line}
use Rattle.hl_line.specs.declared.line.Line.TheVariants.{Step as Makes}
use Rattle.hl_line.specs.Lines.{step_spelling, spelling, StepFits}
use Rattle.hl_line.specs.Usual.{IsUsualStep, IsUsual}
use Rattle.hl_line.proofs.Texts.{spelling_free}

-- a usual step fits
usual_fits : (s : Step) → IsUsualStep s → StepFits s
usual_fits (Allocate t n) h = (omega arith, omega arith)
usual_fits (Write t a v) h = (omega arith, (omega arith, omega arith))
usual_fits (Read t a) h = (omega arith, omega arith)
usual_fits (Refresh t) h = omega arith
usual_fits (Look t read_only head) h = (omega arith, (omega arith, omega arith))
usual_fits Take h = tt
usual_fits (Done ticket) h = omega arith
usual_fits FlushTake h = tt
usual_fits (FlushDone page true) h = omega arith
usual_fits (FlushDone page false) h = absurd h
usual_fits CleanTake h = tt
usual_fits (CleanDone page) h = omega arith
usual_fits other h = absurd h

-- what stands before the first LF
before_feed : (a b x y : List ℕ) → All (λ (c : ℕ). c ≢ 10) a → All (λ (c : ℕ). c ≢ 10) b → a ++ (10 ∷ x) ≡ b ++ (10 ∷ y) → a ≡ b
before_feed [] [] x y ha hb e = cc
before_feed [] (c ∷ b) x y ha hb e = absurd (All-head (λ (c : ℕ). c ≢ 10) c b hb cc)
before_feed (c ∷ a) [] x y ha hb e = absurd (All-head (λ (c : ℕ). c ≢ 10) c a ha cc)
before_feed (c ∷ a) (d ∷ b) x y ha hb e =
    let rest : a ≡ b = before_feed a b x y (All-tail (λ (c : ℕ). c ≢ 10) c a ha) (All-tail (λ (c : ℕ). c ≢ 10) d b hb) cc in
    cc

-- how many bytes a usual line has with its LF, by any step found at the front
pub line_count : (step : Step) (after bytes : List ℕ) → StepFits step → step_spelling step ++ (10 ∷ after) ≡ bytes → (l : Line) (rest : List ℕ) → IsUsual l → bytes ≡ spelling l ++ (10 ∷ rest) → length bytes - length after ≡ length (spelling l) + 1
line_count step after bytes fits here (Makes usual) rest h e =
    let same : step_spelling step ≡ step_spelling usual = before_feed (step_spelling step) (step_spelling usual) after rest (spelling_free (Makes step) fits) (spelling_free (Makes usual) (usual_fits usual h)) (here ∙ e) in
    omega (arith, ap length same, ap length here, length-append (step_spelling step) (10 ∷ after))
line_count step after bytes fits here other rest h e = absurd h
