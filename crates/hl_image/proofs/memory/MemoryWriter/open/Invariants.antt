use Rattle.std.proofs.Common.{◌≡◌, None, replicate, vec_capacity}
use Rattle.hl_image.proofs.memory.MemoryWriter.open.Given as goal

abbrev pub invariant-loop : goal.invariant-loop
invariant-loop l =
    (l.rows.items ≡ replicate l.counter (record { size = l.size; image = None }))
    × (vec_capacity l.rows ≡ l.pages)
