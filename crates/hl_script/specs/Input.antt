-- What a run has read of its input, and the next line that it takes.
use Rattle.std.specs.Prelude.{◌≡◌, ◌<◌, ◌≤◌, ◌⊎◌, ℕ, ◌+◌, ◌-◌, ◌*◌, Bool, true, false, if◌then◌else◌, Option, Some, None, Result, Ok, Err, List, [], ◌∷◌, ◌++◌, length}
use Rattle.std.specs.List.{list_any}
use Rattle.std.specs.Io.KnownBytes.{Consumes, IsAtEnd}
use Rattle.hl_model.specs.declared.fault.Fault.{Fault}
use Rattle.hl_model.specs.declared.fault.Fault.TheVariants.{Stream}
use Rattle.hl_line.specs.declared.line.Line.{Line}
use Rattle.hl_line.specs.Reading.{line_of}
use Rattle.hl_script.specs.Interpreter.{is_end}
use Rattle.hl_script.specs.Outcomes.{ReadWithin}

-- an input as the run sees it: what was read and isn't taken, whether a read told the end, the reads that were made, and
-- how many may be
pub record InputView : Type 0 where
  pub shown : List ℕ
  pub has_ended : Bool
  pub made : ℕ
  pub most : ℕ

-- how many bytes may still be taken
abbrev pub budget : InputView → ℕ
budget input = 16384 * (input.most - input.made) + length input.shown

-- these bytes were taken of what was read, in at most so many reads; at the end nothing is left, and the last read gave
-- nothing
pub record HasRead (reads : ℕ) (given left : Option (List ℕ)) (input : InputView) (done : List ℕ)
    : Type 0 where
  pub consumed : Consumes given left (done ++ input.shown)
  pub few : length done + length input.shown ≤ 16384 * input.made
  pub made : input.made ≤ reads
  pub most : input.most ≤ reads
  pub over : input.has_ended ≡ true
      → (input.shown ≡ []) × IsAtEnd left × (length done + 16384 ≤ 16384 * input.made)

-- there is more of the input, or it has ended, or a read failed, which isn't behind its end
abbrev pub MoreRead : ℕ → Option (List ℕ) → Option (List ℕ) → InputView → InputView → List ℕ
    → Result Bool Fault
    → Type 0
MoreRead reads given left was input done (Ok more) =
    HasRead reads given left input done × (more ≡ false → input.has_ended ≡ true)
    × (more ≡ true → was.has_ended ≡ false)
MoreRead reads given left was input done (Err fault) =
    (fault ≡ Stream) × (was.has_ended ≡ false) × ReadWithin reads given left done

-- these bytes without an LF were taken, and the LF behind them; or they end with the input, or are too many for a line
abbrev pub Passed : ℕ → Option (List ℕ) → Option (List ℕ) → InputView → List ℕ → List ℕ → Type 0
Passed reads given left input done line =
    HasRead reads given left input (done ++ (line ++ 10 ∷ []))
    ⊎ (HasRead reads given left input (done ++ line)
    × (((input.has_ended ≡ true) × (0 < length line)) ⊎ (length line ≡ 81)))

-- a read failed, or no more are made, in a line of which these bytes were taken
pub record ReadFailed (reads : ℕ) (given left : Option (List ℕ)) (done line : List ℕ) : Type 0 where
  pub within : ReadWithin reads given left (done ++ line)
  pub no_end : list_any is_end line ≡ false
  pub short : length line ≤ 80

-- what the taking of a line's bytes came to
abbrev pub Taken : ℕ → Option (List ℕ) → Option (List ℕ) → InputView → List ℕ → List ℕ → Result Unit Fault
    → Type 0
Taken reads given left input done line (Ok taken) =
    (list_any is_end line ≡ false) × Passed reads given left input done line
Taken reads given left input done line (Err fault) = (fault ≡ Stream) × ReadFailed reads given left done line

-- the bytes of the next line were taken, which is this line, or they are none
pub record Found (reads : ℕ) (given left : Option (List ℕ)) (input : InputView) (done : List ℕ)
    (found : Option Line)
    : Type 0 where
  pub raw : List ℕ
  pub spells : line_of raw ≡ found
  pub no_end : list_any is_end raw ≡ false
  pub passed : Passed reads given left input done raw

-- what the search for the next line came to
abbrev pub IsNext : ℕ → Option (List ℕ) → Option (List ℕ) → InputView → List ℕ → Line → Result Bool Fault
    → Type 0
IsNext reads given left input done line (Ok found) =
    Found reads given left input done (if found then Some line else None)
IsNext reads given left input done line (Err fault) =
    (fault ≡ Stream) × (raw : List ℕ) × ReadFailed reads given left done raw
