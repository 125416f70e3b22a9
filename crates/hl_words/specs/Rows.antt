-- What contracts see of a row of words without a brand, and what the steps of its table ask of a seat and leave in it.
use Rattle.std.specs.Prelude.{ℕ, ◌≡◌, ◌+◌, ◌-◌, ◌^◌, ◌<◌, ◌≤◌, []}
use Rattle.atomic_table.specs.Seated.{TableId}
use Rattle.atomic_table.specs.Table.{Me}
use Rattle.hl_words.specs.declared.view.OffsetWords.{OffsetWords}
use Rattle.hl_words.specs.declared.view.RiderView.{RiderView}
use Rattle.hl_words.specs.declared.view.SeatView.{SeatView}
use Rattle.hl_words.specs.declared.view.Room.{Room}
use Rattle.hl_words.specs.declared.which.Which.{Which}
use Rattle.hl_words.specs.Seats.{rider_seat}
use Rattle.hl_words.specs.States.{first_rider}
use Rattle.hl_words.specs.Views.{no_offsets, with_offset}

-- a table with the cells of this room and 27 words more
abbrev pub IsWide : Room → TableId → Type 0
IsWide room table = (table.words ≡ room.cells + 27) × (room.cells ≤ 2 ^ 36)

-- a seat that stands for this rider alone
abbrev pub StandsFor : RiderView → Me (Unit {0}) SeatView → Type 0
StandsFor r me = me ≡ (rider_seat r, [])

-- a seat of this table that stands for one rider alone
pub record CanStep (room : Room) (table seat : TableId) (me : Me (Unit {0}) SeatView) : Type 0 where
  pub wide : IsWide room table
  pub there : seat ≡ table
  pub rider : StandsFor (first_rider me.0) me

-- how many cells a row has, and which row it is
pub record RowState : Type 0 where
  pub cells : ℕ
  pub table : TableId

-- what a rider did, and at which row
pub record RowRiderState : Type 0 where
  pub view : RiderView
  pub table : TableId

-- the master's stores of its words, at which row it is, and how many riders it can still deal out
pub record RowMasterState : Type 0 where
  pub offsets : OffsetWords
  pub table : TableId
  pub left : ℕ

-- the master of a row before its first store, with so many riders to deal out
abbrev pub first_master : ℕ → TableId → RowMasterState
first_master riders table = record { offsets = no_offsets; table = table; left = riders }

-- the master after one more store of a word
abbrev pub with_word : Which → ℕ → RowMasterState → RowMasterState
with_word which x m = record (m) { offsets = with_offset which x m.offsets }

-- the master after it dealt one more rider out
abbrev pub dealt : RowMasterState → RowMasterState
dealt m = record (m) { left = m.left - 1 }

-- a rider of this master's row that did nothing yet
abbrev pub IsNew : RowMasterState → RowRiderState → Type 0
IsNew m r = (r.table ≡ m.table) × (r.view.touches ≡ [])

-- the rider of a row after it did this
abbrev pub acted : (RiderView → RiderView) → RowRiderState → RowRiderState
acted f r = record { view = f r.view; table = r.table }
