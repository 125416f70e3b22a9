use Rattle.std.proofs.Common.{◌≡◌, ◌++◌, take}
use Rattle.std.specs.List.{flat_map}
use Rattle.hl_line.specs.Lines.{spaced}
use Rattle.hl_line.proofs.text.append.Given as goal

abbrev pub invariant-loop-number : goal.invariant-loop-number
invariant-loop-number g l =
    l.text.bytes ≡ l.fn.text.bytes ++ (l.word ++ flat_map spaced (take l.number-index l.numbers))
