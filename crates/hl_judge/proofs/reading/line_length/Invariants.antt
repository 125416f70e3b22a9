use Rattle.std.proofs.Common.{◌≡◌, false, take}
use Rattle.std.specs.List.{list_any}
use Rattle.hl_script.specs.Interpreter.{is_end}
use Rattle.hl_judge.proofs.reading.line_length.Given as goal

-- no LF stands before
abbrev pub invariant-loop-at : goal.invariant-loop-at
invariant-loop-at l = list_any is_end (take l.at l.bytes) ≡ false
