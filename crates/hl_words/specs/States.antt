-- What contracts see of a seed, of words, of a master and of a rider.
use Rattle.std.specs.Prelude.{ℕ, zero, suc, ◌≡◌, ◌+◌, ◌^◌, ◌≤◌, List, [], ◌∷◌, ◌++◌, length, Option, Some, None, slice_index_or}
use Rattle.atomic_table.specs.Seated.{TableId}
use Rattle.hl_model.specs.Sizes.{Sizes}
use Rattle.hl_model.specs.declared.step.Step.{Step}
use Rattle.hl_history.specs.declared.view.Entry.{Entry}
use Rattle.hl_history.specs.States.{GatheredState}
use Rattle.hl_words.specs.declared.view.Touch.{Touch}
use Rattle.hl_words.specs.declared.view.Touch.TheVariants.{Stored, Loaded, Changed, Called, Looked, Met}
use Rattle.hl_words.specs.declared.view.Extent.{Extent}
use Rattle.hl_words.specs.declared.view.Known.{Known}
use Rattle.hl_words.specs.declared.view.OffsetWords.{OffsetWords}
use Rattle.hl_words.specs.declared.view.RiderView.{RiderView}
use Rattle.hl_words.specs.declared.view.SeatView.{SeatView}
use Rattle.hl_words.specs.declared.view.Room.{Room}
use Rattle.hl_words.specs.Views.{no_offsets, fresh, unused, called, no_extent}
use Rattle.hl_words.specs.Seats.{master_seat, spent_seat}
use Rattle.atomic_table.specs.Table.{Me}

-- a rider's stores and loads, how many journal steps it entered, and its calls that met the one list, the
-- newest first
pub record RiderState : Type 0 where
  pub view : RiderView
  pub share : ℕ
  pub calls : List Entry

-- the master's stores of its words, how many journal steps were entered in all, and how far the newest call that was
-- noted left the one list
pub record MasterState : Type 0 where
  pub offsets : OffsetWords
  pub total : ℕ
  pub called : Extent

-- the master before its first store
abbrev pub new_master : MasterState
new_master = record { offsets = no_offsets; total = 0; called = no_extent }

-- the master once a call was noted that left all steps, so many of them cut
abbrev pub all_called : ℕ → MasterState → MasterState
all_called cut m =
    record { offsets = m.offsets; total = m.total; called = record { steps = m.total; cut = cut } }

-- the tables of one seed: that of its words, and that of its one list
pub record Tables : Type 0 where
  pub words : TableId
  pub history : TableId

-- the table that nothing has
abbrev pub no_table : TableId
no_table = record {
  words = 0;
  slots = 0;
  views_name = 0;
  atom = 0;
  block = 0;
  offset = 0;
  slot_names = [];
}

-- how many cells and how many riders
pub record WordsState : Type 0 where
  pub cells : ℕ
  pub riders : ℕ

-- the words at their end, without the unused ones before the cells: so many cells, and then the master's four words
pub record LastState : Type 0 where
  pub cells : ℕ
  pub words : List ℕ

-- the sizes of a seed's allocator, how many cells and how many riders it has, with the names of its tables
-- and of its ledger
pub record SeedState : Type 0 where
  pub sizes : Sizes
  pub cells : ℕ
  pub riders : ℕ
  pub table : Tables
  pub name : ℕ

-- the seed whose ledger has this name and these parts, and whose tables are these
abbrev pub IsSeedOf : ℕ → ℕ → Tables → SeedState → Type 0
IsSeedOf name parts table seed = (seed.name ≡ name) × (seed.riders ≡ parts) × (seed.table ≡ table)

-- the view of the rider for whom a rider's seat stands
abbrev pub first_rider : SeatView → RiderView
first_rider v = slice_index_or v.riders 0 unused

-- the first table of a seed, or that of words: its rule is that of this room, and it has the cells and 27 words
-- more, of which four are the master's
pub record IsTableOf (room : Room) (key : Room) (table : TableId) : Type 0 where
  pub key_is : key ≡ room
  pub words_are : table.words ≡ room.cells + 27
  pub no_slot : table.slots ≡ 0
  pub few : room.cells ≤ 2 ^ 36
  pub some : 1 ≤ room.riders
  pub at_most : room.riders ≤ 2048

-- the master's seat, which is the table's first and has no slot
pub record IsMasterSeat (called : Extent) (last : OffsetWords) (riders : List RiderView) (id : ℕ)
    (me : Me (Unit {0}) SeatView) : Type 0 where
  pub first : id ≡ 0
  pub knows : me ≡ (master_seat called last riders, [])

-- a rider with another view
abbrev pub with_view : RiderView → RiderState → RiderState
with_view view r = record { view = view; share = r.share; calls = r.calls }

-- how far the one list was when a call met it, of which so many steps were cut
abbrev pub extent_met : ℕ → Entry → Extent
extent_met cut call = record { steps = length call.before; cut = cut }

-- how far the call left it, of which so many were cut then
abbrev pub extent_left : ℕ → Entry → Extent
extent_left cut call = record { steps = length call.before + length call.steps; cut = cut }

-- a rider with one call more, which stands among its touches too: of the list that it met so many steps were cut, and of
-- the list that it left so many
abbrev pub with_call : ℕ → ℕ → Entry → RiderState → RiderState
with_call was now call r = record {
  view = called (extent_met was call) (extent_left now call) r.view;
  share = r.share;
  calls = call ∷ r.calls;
}

-- Each call among the touches is the call of the rider's record at its place: it met so many steps and left so many. Both lists stand
-- newest first
abbrev pub AreTied : List Touch → List Entry → Type 0
AreTied [] [] = Unit {0}
AreTied [] (call ∷ calls) = ⊥
AreTied (Stored d v ∷ before) calls = AreTied before calls
AreTied (Loaded d v ∷ before) calls = AreTied before calls
AreTied (Changed d found v ∷ before) calls = AreTied before calls
AreTied (Called met left ∷ before) [] = ⊥
AreTied (Called met left ∷ before) (call ∷ calls) = (met.steps ≡ length call.before)
    × (left.steps ≡ length call.before + length call.steps) × AreTied before calls
AreTied (Looked which x ∷ before) calls = AreTied before calls
AreTied (Met name count ∷ before) calls = AreTied before calls

-- the rider of this name before its first step
abbrev pub new_rider : ℕ → RiderState
new_rider name = record { view = fresh name; share = 0; calls = [] }

-- n of them, named from 0 on
abbrev pub new_riders : ℕ → List RiderState
new_riders zero = []
new_riders (suc n) = new_riders n ++ new_rider n ∷ []

-- what these pasts tell, if any
abbrev pub known_to_all : {R : Type 0} → (R → List Known) → Option R → List Known
known_to_all items None = []
known_to_all items (Some all) = items all

-- what the seat of a past's badge tells
abbrev pub known_by : List SeatView → Known
known_by views =
    slice_index_or (slice_index_or views 0 spent_seat).known 0 (record { name = 0; touches = [] })

-- the list at the end with no record yet, where the recorder is there
abbrev pub with_no_records : Option (List Step) → Option GatheredState
with_no_records None = None
with_no_records (Some list) = Some (record { list = list; records = [] })

-- the same with these records before its own
abbrev pub with_records : List (List Entry) → Option GatheredState → Option GatheredState
with_records records None = None
with_records records (Some g) = Some (record { list = g.list; records = records ++ g.records })
