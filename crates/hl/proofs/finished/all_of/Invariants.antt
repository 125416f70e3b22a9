use Rattle.std.proofs.Common.{◌≡◌, ◌≤◌, ◌+◌, ◌++◌, map, length, vec_len, vec_capacity, Ok}
use Rattle.hl.proofs.finished.all_of.Given as goal

-- what all returned so far, and behind it what is left, for which there is room
abbrev pub invariant-loop-out : goal.invariant-loop-out
invariant-loop-out g l =
    (l.fn.outs.items ≡ map (λ out. Ok out) l.all.items ++ l.out-iterator.rest.items)
    × (vec_len l.all + length l.out-iterator.rest.items ≤ vec_capacity l.all)
