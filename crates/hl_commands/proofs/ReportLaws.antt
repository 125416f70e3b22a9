-- What a script's report tells.
use Rattle.std.proofs.Common.{◌≡◌, ℕ, Bool, List, [], ◌∷◌, length, ap₂, subst, ◌^◌}
use Rattle.std.specs.Prelude.{Option, Some, Result, Ok, Err, OnOk}
use Rattle.std.specs.Io.KnownBytes.{Appends}
use Rattle.hl_line.specs.declared.line.Line.{Line}
use Rattle.hl_model.specs.declared.snapshot.Snapshot.{Snapshot}
use Rattle.hl_model.specs.Snapshots.{snapshot_of}
use Rattle.hl_script.specs.Answers.{sizes_of, accepted}
use Rattle.hl_script.specs.Lines.{script}
use Rattle.hl_script.specs.Outcomes.{ReadToEnd}
use Rattle.hl_script.specs.Text.{count_of}
use Rattle.hl_monitor.specs.Reports.{report_text}
use Rattle.hl_commands.specs.Reported.{reported, Reports}

-- the quantities after the accepted steps of some lines, and how many these are
pub report_told : (has : ℕ → Bool) (lines : List Line) (count : ℕ) (now : Snapshot) → Some count ≡ count_of has lines
    → now ≡ snapshot_of (sizes_of lines) (accepted has lines) → report_text now count 0 ≡ reported has lines
report_told has [] count now counted is = cc
report_told has (line ∷ lines) count now counted is = let steps : count ≡ length (accepted has (line ∷ lines)) = cc in ap₂ (λ now count. report_text now count 0) is steps

-- where a report was written, it is that of the script
pub report_written : {T E : Type 0} (has : ℕ → Bool) (given left before after : Option (List ℕ)) (input text : List ℕ) (r : Result T E)
    → ReadToEnd (2 ^ 32) given left input → text ≡ reported has (script input) → OnOk r (Appends before after text)
    → OnOk r (Reports has given left before after)
report_written has given left before after input text (Ok done) end is wrote = (input, end, subst (Appends before after) is wrote)
report_written has given left before after input text (Err e) end is wrote = tt
