use Rattle.std.proofs.Common.{◌≡◌, ℕ, Bool, List, [], ◌∷◌, length}
use Rattle.std.specs.Prelude.{Option}
use Rattle.std.specs.Io.KnownBytes.{Consumes}
use Rattle.hl_line.specs.declared.line.Line.{Line}
use Rattle.hl_script.specs.Fast.{FastStands}
use Rattle.hl_judge.specs.Judging.{Come}
use Rattle.hl_judge.proofs.run.judge_lines.Given as goal

-- these lines agree, and what answers stands at those of the script
abbrev pub invariant-loop-lines : goal.invariant-loop-lines
invariant-loop-lines g l =
    (has : ℕ → Bool) (given : Option (List ℕ)) (start : List ℕ) (first : Line)
    → Consumes given (g.R.Read.remaining l.fn.reader) start → Come has start (first ∷ [])
    → FastStands l.fn.answering.fast.shelf l.fn.answering.fast.engine has (first ∷ [])
    → (done : List ℕ) × (before : List Line) × Consumes given (g.R.Read.remaining l.reader) done
    × FastStands l.answering.fast.shelf l.answering.fast.engine has before × Come has done before × (l.lines ≡ length before)
