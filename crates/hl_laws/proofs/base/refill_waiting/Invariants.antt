use Rattle.std.proofs.Common.{◌≡◌, vec_capacity, take}
use Rattle.hl_laws.proofs.base.refill_waiting.Given as goal

-- the actions so far are in the row, whose room stays
abbrev pub invariant-loop-n : goal.invariant-loop-n
invariant-loop-n g l = (l.row.items ≡ take l.n (g.Q.Quantities.tells l.quantities).waiting) × (vec_capacity l.row ≡ vec_capacity l.initial.row)
