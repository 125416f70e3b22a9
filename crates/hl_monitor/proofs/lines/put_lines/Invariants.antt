use Rattle.std.proofs.Common.{drop}
use Rattle.hl_line.proofs.Growing.{Grows}
use Rattle.hl_monitor.specs.Reports.{lines_of}
use Rattle.hl_monitor.proofs.lines.put_lines.Given as goal

-- the lines from this one on are to come
abbrev pub invariant-loop-label : goal.invariant-loop-label
invariant-loop-label g l =
    Grows (g.W.Write.contents l.fn.writer) (g.W.Write.contents l.writer) (lines_of l.lines) (lines_of (drop l.label-index l.lines))
