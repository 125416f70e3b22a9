use Rattle.std.proofs.Common.{◌≡◌, vec_capacity, take}
use Rattle.hl_laws.proofs.base.refill_slots.Given as goal

-- the slots so far are in the row, whose room stays
abbrev pub invariant-loop-t : goal.invariant-loop-t
invariant-loop-t g l = (l.row.items ≡ take l.t (g.Q.Quantities.tells l.quantities).slots) × (vec_capacity l.row ≡ vec_capacity l.initial.row)
