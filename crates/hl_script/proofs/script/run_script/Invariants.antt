use Rattle.std.proofs.Common.{ℕ, ◌+◌, ◌^◌, ◌≤◌, Bool, List}
use Rattle.hl_line.specs.declared.line.Line.{Line}
use Rattle.hl_script.specs.Interpreter.{At}
use Rattle.hl_script.specs.Input.{HasRead, budget}
use Rattle.hl_script.specs.Runs.{StandsAt}
use Rattle.hl_script.proofs.script.run_script.Given as goal

-- the lines so far were answered, and no more are to come than bytes
abbrev pub invariant-loop-stepping : goal.invariant-loop-stepping
invariant-loop-stepping g l = record {
  few : l.lines + budget l.input ≤ 2 ^ 63;
  steps : l.accepted ≤ l.lines;
  ran : (has : ℕ → Bool) → g.O.Opening.begins l.fn.opening has
      → (done : List ℕ) × (before : List Line) × HasRead l.reads (g.R.Read.remaining l.fn.reader) (g.R.Read.remaining l.reader) l.input done
      × At (StandsAt (g.S.Stepping.stands l.stepping)) has done before (g.W.Write.contents l.fn.out) (g.W.Write.contents l.out) l.input.has_ended l.lines l.accepted;
}

abbrev pub decreases-loop-stepping : goal.decreases-loop-stepping
decreases-loop-stepping g l = budget l.input
