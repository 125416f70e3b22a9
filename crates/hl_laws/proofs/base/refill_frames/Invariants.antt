use Rattle.std.proofs.Common.{◌≡◌, vec_capacity, take}
use Rattle.hl_laws.proofs.base.refill_frames.Given as goal

-- the frames so far are in the row, whose room stays
abbrev pub invariant-loop-f : goal.invariant-loop-f
invariant-loop-f g l = (l.row.items ≡ take l.f (g.Q.Quantities.tells l.quantities).frames) × (vec_capacity l.row ≡ vec_capacity l.initial.row)
