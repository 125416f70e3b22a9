use Rattle.std.proofs.Common.{◌≡◌, replicate, vec_len, vec_capacity}
use Rattle.hl_model.proofs.rows.filled.Given as goal

-- as many copies were pushed as turns are over, into a row with room for n
abbrev pub invariant-loop : goal.invariant-loop
invariant-loop g l = (l.row.items ≡ replicate l.counter l.x) × (vec_len l.row ≡ l.counter) × (vec_capacity l.row ≡ l.fn.n)
