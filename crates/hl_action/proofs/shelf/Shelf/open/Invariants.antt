use Rattle.std.proofs.Common.{◌≡◌, None, replicate, vec_capacity}
use Rattle.hl_action.proofs.shelf.Shelf.open.Given as goal

-- as many free places were made as turns are over, in a row of n places
abbrev pub invariant-loop : goal.invariant-loop
invariant-loop g l = (l.places.items ≡ replicate l.counter None) × (vec_capacity l.places ≡ l.fn.n)
