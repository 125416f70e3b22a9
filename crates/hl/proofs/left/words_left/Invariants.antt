use Rattle.std.proofs.Common.{◌≡◌, ℕ, Some, length, slice_get}
use Rattle.hl.specs.Left.{IsLeft}
use Rattle.hl.proofs.left.words_left.Given as goal

-- the words so far are those below the address
abbrev pub invariant-loop-address : goal.invariant-loop-address
invariant-loop-address g l = (length l.words.items ≡ l.address) × ((a v : ℕ) → slice_get l.words.items a ≡ Some v → IsLeft l.sizes l.device l.ending a (Some v))
