-- Who is woken of those that look for pages.
use Rattle.std.specs.Prelude.{ℕ, true, List, nat_lt, slice_index}
use Rattle.hl_crew.specs.declared.woken.Woken.{Woken}

-- by how many frames are open, sealed, flushed, closed and free: the writers if one is sealed, the cleaner if one is
-- closed
abbrev pub woken_by : List ℕ → Woken
woken_by frames =
    record { writers = nat_lt 0 (slice_index frames 1); cleaner = nat_lt 0 (slice_index frames 3) }

-- all of them
abbrev pub all_woken : Woken
all_woken = record { writers = true; cleaner = true }
