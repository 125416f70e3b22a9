-- The report of a script.
use Rattle.std.specs.Prelude.{ℕ, ◌^◌, Bool, Option, List, [], ◌∷◌, length}
use Rattle.std.specs.Io.KnownBytes.{Appends}
use Rattle.hl_line.specs.declared.line.Line.{Line}
use Rattle.hl_model.specs.Snapshots.{snapshot_of}
use Rattle.hl_script.specs.Answers.{sizes_of, accepted}
use Rattle.hl_script.specs.Lines.{script}
use Rattle.hl_script.specs.Outcomes.{ReadToEnd}
use Rattle.hl_monitor.specs.Reports.{report_text}

-- what is reported of some lines: the quantities that their accepted steps left, and how many these are
abbrev pub reported : (ℕ → Bool) → List Line → List ℕ
reported has [] = []
reported has (line ∷ lines) =
    report_text (snapshot_of (sizes_of (line ∷ lines)) (accepted has (line ∷ lines)))
    (length (accepted has (line ∷ lines))) 0

-- the script was read to its end, and its report was written
abbrev pub Reports : (ℕ → Bool) → Option (List ℕ) → Option (List ℕ) → Option (List ℕ) → Option (List ℕ)
    → Type 0
Reports has given left before after =
    (input : List ℕ) × ReadToEnd (2 ^ 32) given left input
    × Appends before after (reported has (script input))
