use Rattle.std.proofs.Common.{◌++◌, [], ◌∷◌, length}
use Rattle.hl_image.specs.Lines.{hex, line_of}
use Rattle.hl_line.proofs.Growing.{Grows}
use Rattle.hl_image.proofs.hex.put_line.Given as goal

abbrev pub invariant-loop-rest : goal.invariant-loop-rest
invariant-loop-rest g l =
    Grows (g.W.Write.contents l.fn.writer) (g.W.Write.contents l.writer) (line_of l.bytes) (hex l.rest ++ 10 ∷ [])

abbrev pub decreases-loop-rest : goal.decreases-loop-rest
decreases-loop-rest g l = length l.rest
