use Rattle.std.proofs.Common.{◌≡◌, ◌≤◌, ◌+◌, ◌++◌, map, length, vec_len, vec_capacity}
use Rattle.hl.proofs.rows.part.Given as goal

-- what was parted so far, and behind it what is left, for which there is room in both rows
abbrev pub invariant-loop-one : goal.invariant-loop-one
invariant-loop-one g l =
    (map (λ one. one.0) l.fn.worked.items ≡ l.all.items ++ map (λ one. one.0) l.one-iterator.rest.items)
    × (map (λ one. one.1) l.fn.worked.items ≡ l.back.items ++ map (λ one. one.1) l.one-iterator.rest.items)
    × (vec_len l.all + length l.one-iterator.rest.items ≤ vec_capacity l.all)
    × (vec_len l.back + length l.one-iterator.rest.items ≤ vec_capacity l.back)
    × (vec_capacity l.back ≡ vec_capacity l.fn.riders)
