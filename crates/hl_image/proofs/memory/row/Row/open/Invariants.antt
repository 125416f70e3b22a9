use Rattle.std.proofs.Common.{◌≡◌, vec_len, vec_capacity}
use Rattle.hl_image.proofs.memory.row.Row.open.Given as goal

-- as many bytes were pushed as turns are over, into a row with room for its size
abbrev pub invariant-loop : goal.invariant-loop
invariant-loop l = (vec_len l.bytes ≡ l.counter) × (vec_capacity l.bytes ≡ l.size)
