use Rattle.std.proofs.Common.{◌≡◌, ◌*◌, length, take}
use Rattle.hl_image.specs.Lines.{hex}
use Rattle.hl_image.proofs.hex.hex_of.Given as goal

abbrev pub invariant-loop-byte : goal.invariant-loop-byte
invariant-loop-byte l =
    (l.text.items ≡ hex (take l.byte-index l.bytes)) × (length l.text.items ≡ 2 * l.byte-index)
