-- Which lines are the usual ones, of which a script has most.
use Rattle.std.specs.Prelude.{◌≡◌, ℕ, ◌^◌, ◌<◌, ◌≤◌, ◌≢◌, true, List, [], ◌∷◌, ◌++◌, decimal}
use Rattle.hl_model.specs.declared.step.Step.{Step}
use Rattle.hl_model.specs.declared.step.Step.TheVariants.{Refresh, Take, Done, Allocate, Look, Write, Read, FlushTake, FlushDone, CleanTake, CleanDone}
use Rattle.hl_line.specs.Lines.{StepFits, step_spelling}
use Rattle.hl_line.specs.declared.line.Line.{Line}
use Rattle.hl_line.specs.declared.line.Line.TheVariants.{Step as Makes}

-- the step of a usual line, with numbers below 10^18
abbrev pub IsUsualStep : Step → Type 0
IsUsualStep (Allocate t n) = (t < 10 ^ 18) × (n < 10 ^ 18)
IsUsualStep (Write t a v) = (t < 10 ^ 18) × ((a < 10 ^ 18) × (v < 10 ^ 18))
IsUsualStep (Read t a) = (t < 10 ^ 18) × (a < 10 ^ 18)
IsUsualStep (Refresh t) = t < 10 ^ 18
IsUsualStep (Look t read_only head) = (t < 10 ^ 18) × ((read_only < 10 ^ 18) × (head < 10 ^ 18))
IsUsualStep Take = Unit {0}
IsUsualStep (Done ticket) = ticket < 10 ^ 18
IsUsualStep FlushTake = Unit {0}
IsUsualStep (FlushDone page true) = page < 10 ^ 18
IsUsualStep CleanTake = Unit {0}
IsUsualStep (CleanDone page) = page < 10 ^ 18
IsUsualStep other = ⊥

-- a usual line
abbrev pub IsUsual : Line → Type 0
IsUsual (Makes step) = IsUsualStep step
IsUsual other = ⊥

-- a byte that is no digit
abbrev pub IsNoDigit : ℕ → Type 0
IsNoDigit byte = 48 ≤ byte → 57 < byte

-- no digit stands first
abbrev pub NoDigitFirst : List ℕ → Type 0
NoDigitFirst [] = Unit {0}
NoDigitFirst (byte ∷ bytes) = IsNoDigit byte

-- no number below 10^18 stands first, up to this byte
abbrev pub LacksNumber : ℕ → List ℕ → Type 0
LacksNumber end bytes = (n : ℕ) (rest : List ℕ) → n < 10 ^ 18 → decimal n ++ (end ∷ rest) ≢ bytes

-- no two such numbers stand first, up to an LF
abbrev pub LacksTwo : List ℕ → Type 0
LacksTwo bytes =
    (a b : ℕ) (rest : List ℕ) → a < 10 ^ 18 → b < 10 ^ 18
    → decimal a ++ (32 ∷ (decimal b ++ (10 ∷ rest))) ≢ bytes

-- no three such numbers stand first, up to an LF
abbrev pub LacksThree : List ℕ → Type 0
LacksThree bytes =
    (a b c : ℕ) (rest : List ℕ) → a < 10 ^ 18 → b < 10 ^ 18 → c < 10 ^ 18
    → decimal a ++ (32 ∷ (decimal b ++ (32 ∷ (decimal c ++ (10 ∷ rest))))) ≢ bytes

-- no such number stands first with `ok` behind it, up to an LF
abbrev pub LacksFlush : List ℕ → Type 0
LacksFlush bytes =
    (page : ℕ) (rest : List ℕ) → page < 10 ^ 18
    → decimal page ++ (32 ∷ 111 ∷ 107 ∷ 10 ∷ rest) ≢ bytes

-- this word doesn't stand first
abbrev pub LacksWord : List ℕ → List ℕ → Type 0
LacksWord word bytes = (rest : List ℕ) → word ++ rest ≢ bytes

-- where this word stands first, P holds of what stands behind it
abbrev pub Behind : List ℕ → (List ℕ → Type 0) → List ℕ → Type 0
Behind word P bytes = (rest : List ℕ) → word ++ rest ≡ bytes → P rest

-- the line of a step that fits stands first, with its LF, and then the rest
abbrev pub StandsFirst : Step → List ℕ → List ℕ → Type 0
StandsFirst step rest bytes = StepFits step × (step_spelling step ++ (10 ∷ rest) ≡ bytes)

-- no usual line of a step stands first
abbrev pub LacksStep : List ℕ → Type 0
LacksStep bytes =
    (step : Step) (rest : List ℕ) → IsUsualStep step → step_spelling step ++ (10 ∷ rest) ≢ bytes
