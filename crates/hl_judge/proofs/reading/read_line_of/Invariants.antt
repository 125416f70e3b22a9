use Rattle.std.proofs.Common.{◌+◌, ◌-◌, length}
use Rattle.hl_judge.specs.Traces.{longest}
use Rattle.hl_judge.specs.Judging.{ReadInLine}
use Rattle.hl_judge.proofs.reading.read_line_of.Given as goal

-- a beginning of a line was read
abbrev pub invariant-loop-reader : goal.invariant-loop-reader
invariant-loop-reader g l = ReadInLine (g.R.Read.remaining l.fn.reader) (g.R.Read.remaining l.reader) l.bytes.items

abbrev pub decreases-loop-reader : goal.decreases-loop-reader
decreases-loop-reader g l = longest + 1 - length l.bytes.items
