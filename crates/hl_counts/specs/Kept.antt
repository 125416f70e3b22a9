-- What is true of the fields of a table with counts.
use Rattle.std.specs.Prelude.{◌≡◌, ◌+◌, length, vec_len, vec_capacity}
use Rattle.hl_model.specs.Epochs.{Table}
use Rattle.hl_epoch.specs.Table.{safe_of, IsTable}
use Rattle.hl_counts.specs.Tallies.{IsTally, HasPlace}
use Rattle.hl_counts.specs.Counted.{Counted}
use Rattle.hl_counts.specs.declared.count_table.CountTable.TheInside.{Inside}

-- the table that the fields stand for
abbrev pub table_in : Inside → Table
table_in a = record { current = a.current.epoch; epochs = a.epochs.items; window = a.window }

-- the table and the turns that the fields stand for
abbrev pub counted_in : Inside → Counted
counted_in a = record { table = table_in a; turns = a.ring.turns }

-- the safe epoch is exact, the ring counts the slots, both epochs have their places in it, and the row of
-- slots has no room beside them
pub record IsKept (a : Inside) : Type 0 where
  pub table : IsTable (table_in a)
  pub next : a.next.epoch ≡ safe_of (table_in a) + 1
  pub tally : IsTally a.epochs.items a.ring.counts
  pub places : length a.ring.counts ≡ a.window + 1
  pub current_placed : HasPlace a.current a.ring.counts
  pub next_placed : HasPlace a.next a.ring.counts
  pub exact : vec_capacity a.epochs ≡ vec_len a.epochs
