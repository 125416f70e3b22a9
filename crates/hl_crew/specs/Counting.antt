-- What a flusher counts.
use Rattle.std.specs.Prelude.{ℕ, ◌+◌, ◌-◌, ◌^◌, min, Bool, true, false}
use Rattle.hl_crew.specs.declared.counts.Counts.{Counts}

-- one more; the count stays at the last number
abbrev pub one_more : ℕ → ℕ
one_more n = min (n + 1) (2 ^ 64 - 1)

-- nothing was counted
abbrev pub nothing : Counts
nothing = record { written = 0; failed = 0; strangers = 0 }

-- a flush was answered, well or not
abbrev pub counted : Bool → Counts → Counts
counted true c = record { written = one_more c.written; failed = c.failed; strangers = c.strangers }
counted false c = record { written = c.written; failed = one_more c.failed; strangers = c.strangers }

-- an acknowledgement named a page that isn't held
abbrev pub one_stranger : Counts → Counts
one_stranger c = record { written = c.written; failed = c.failed; strangers = one_more c.strangers }

-- two counts together, which stay at the last number
abbrev pub sum_of : ℕ → ℕ → ℕ
sum_of m n = min (m + n) (2 ^ 64 - 1)

-- what both counted
abbrev pub counted_with : Counts → Counts → Counts
counted_with c d = record {
  written = sum_of c.written d.written;
  failed = sum_of c.failed d.failed;
  strangers = sum_of c.strangers d.strangers;
}
