use Rattle.std.proofs.Common.{drop}
use Rattle.std.specs.List.{flat_map}
use Rattle.hl_line.proofs.Growing.{Grows}
use Rattle.hl.specs.Reports.{holder_text}
use Rattle.hl.proofs.reports.put_holders.Given as goal

-- the lines of this slot and of those behind it are to come
abbrev pub invariant-loop-holder : goal.invariant-loop-holder
invariant-loop-holder g l =
    Grows (g.W.Write.contents l.fn.writer) (g.W.Write.contents l.writer) (flat_map holder_text l.holders) (flat_map holder_text (drop l.holder-index l.holders))
