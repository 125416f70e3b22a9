use Rattle.std.proofs.Common.{◌≡◌, ◌≤◌, ◌+◌, ◌++◌, map, length, vec_len, vec_capacity}
use Rattle.hl.proofs.rows.places_of.Given as goal

-- the riders of the places so far, and behind them those that are left, for which there is room
abbrev pub invariant-loop-rider : goal.invariant-loop-rider
invariant-loop-rider g l =
    (l.fn.riders.items ≡ map (λ place. place.1) l.places.items ++ l.rider-iterator.rest.items)
    × (vec_len l.places + length l.rider-iterator.rest.items ≤ vec_capacity l.places)
