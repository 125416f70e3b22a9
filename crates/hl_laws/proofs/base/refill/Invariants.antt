use Rattle.std.proofs.Common.{◌≡◌, vec_capacity, take}
use Rattle.hl_laws.proofs.base.refill.Given as goal

-- the elements so far are in the row, whose room stays
abbrev pub invariant-loop-element : goal.invariant-loop-element
invariant-loop-element l = (l.row.items ≡ take l.element-index l.elements) × (vec_capacity l.row ≡ vec_capacity l.initial.row)
