-- The rule as a rule of a table's seats.
use Rattle.std.specs.Prelude.{ℕ, ◌≡◌, List, [], ◌∷◌, ◌++◌, length, map, take, drop, replicate}
use mathlib.Core.Option.{some}
use lib.ListN.{get_elem?}
use Rattle.std.specs.List.{AllByRecursion}
use Rattle.atomic_table.specs.Table.{State, Me, Step as TableStep}
use Rattle.hl_model.specs.declared.step.Step.{Step}
use Rattle.hl_history.specs.declared.view.Entry.{Entry}
use Rattle.hl_history.specs.declared.view.SeatView.{SeatView}
use Rattle.hl_history.specs.declared.view.Room.{Room}
use Rattle.hl_history.specs.Lists.{entry, IsOf, IsOneList}

-- a seat that knows this list, and stands for these records
abbrev pub seat_of : List Step → List (List Entry) → SeatView
seat_of list records = record { list = list; records = records }

-- a record's seat
abbrev pub record_seat : List Entry → SeatView
record_seat d = seat_of [] (d ∷ [])

-- a seat that was joined into another
abbrev pub spent_seat : SeatView
spent_seat = seat_of [] []

-- the recorder's seat at the start, which stands for all records
abbrev pub first_seat : Room → SeatView
first_seat room = seat_of [] (replicate room.records [])

-- the records of all seats
abbrev pub records_in : List SeatView → List (List Entry)
records_in [] = []
records_in (v ∷ vs) = v.records ++ records_in vs

-- The seats stand for all records, and the recorder's list, that of seat 0, is the one list of them all
pub record IsKept (room : Room) (views : List SeatView) : Type 0 where
  pub recorder : SeatView
  pub seat : get_elem? views 0 ≡ some recorder
  pub count : length (records_in views) ≡ room.records
  pub one : IsOneList recorder.list (records_in views)

-- the rule of the table
abbrev pub Holds : Room → State (Unit {0}) SeatView → Type 0
Holds room s = IsKept room s.views

-- of a look of the recorder's seat: it changed nothing, and its list begins with what its records' calls left
abbrev pub Looks : TableStep (Unit {0}) → Me (Unit {0}) SeatView → ℕ → Me (Unit {0}) SeatView → Type 0
Looks s before found after = (after ≡ before) × AllByRecursion (IsOf before.0.list) before.0.records

-- the seat without its first record
abbrev pub left_seat : SeatView → SeatView
left_seat v = seat_of v.list (drop 1 v.records)

-- a seat with that record alone
abbrev pub right_seat : SeatView → SeatView
right_seat v = seat_of [] (take 1 v.records)

-- the seat without its first record, and with these steps behind its list
abbrev pub left_with : List Step → SeatView → SeatView
left_with steps v = seat_of (v.list ++ steps) (drop 1 v.records)

-- a seat with that record alone, and the call that put the steps there as its newest
abbrev pub right_with : List Step → SeatView → SeatView
right_with steps v = seat_of [] (map (λ d. entry v.list steps ∷ d) (take 1 v.records))

-- the seat with another's records before its own
abbrev pub joined_seat : SeatView → SeatView → SeatView
joined_seat v w = seat_of v.list (w.records ++ v.records)
