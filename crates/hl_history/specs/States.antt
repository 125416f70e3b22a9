-- What contracts see of a seed and of gathered records, and what is kept of a history's table and of its
-- seats.
use Rattle.std.specs.Prelude.{ℕ, ◌≡◌, List, [], slice_index_or}
use Rattle.atomic_table.specs.Table.{Me}
use Rattle.atomic_table.specs.Seated.{TableId}
use Rattle.hl_model.specs.declared.step.Step.{Step}
use Rattle.hl_history.specs.declared.view.Entry.{Entry}
use Rattle.hl_history.specs.declared.view.SeatView.{SeatView}
use Rattle.hl_history.specs.declared.view.Room.{Room}
use Rattle.hl_history.specs.Seats.{seat_of, spent_seat}

-- how many records a seed has, and its table
pub record SeedState : Type 0 where
  pub records : ℕ
  pub table : TableId

-- the list, and the records that no thread has
pub record GatheredState : Type 0 where
  pub list : List Step
  pub records : List (List Entry)

-- the record for which a record's seat stands
abbrev pub record_in : SeatView → List Entry
record_in v = slice_index_or v.records 0 []

-- the record of a badge's seat
abbrev pub record_of : List SeatView → List Entry
record_of views = record_in (slice_index_or views 0 spent_seat)

-- the table of a seed, or of a history: its rule is that of this room, and it has one word
pub record IsTableOf (room : Room) (key : Room) (table : TableId) : Type 0 where
  pub key_is : key ≡ room
  pub words_are : table.words ≡ 1
  pub no_slot : table.slots ≡ 0

-- the recorder's seat, which is the table's first and has no slot
pub record IsRecorderSeat (list : List Step) (records : List (List Entry)) (id : ℕ)
    (me : Me (Unit {0}) SeatView) : Type 0 where
  pub first : id ≡ 0
  pub knows : me ≡ (seat_of list records, [])
