-- The rule as a rule of a table's seats, and what each step tells its seat.
use Rattle.std.specs.Prelude.{ℕ, ◌≡◌, ◌+◌, ◌-◌, ◌≤◌, List, [], ◌∷◌, ◌++◌, length, map, take, drop}
use Rattle.std.specs.List.{AllByRecursion}
use mathlib.Core.Option.{some}
use lib.ListN.{get_elem?}
use Rattle.atomic_table.specs.Table.{State, Me, Step}
use Rattle.hl_words.specs.declared.view.Touch.{Touch}
use Rattle.hl_words.specs.declared.view.Touch.TheVariants.{Stored, Loaded}
use Rattle.hl_words.specs.declared.view.Extent.{Extent}
use Rattle.hl_words.specs.declared.view.Known.{Known}
use Rattle.hl_words.specs.declared.view.OffsetWords.{OffsetWords}
use Rattle.hl_words.specs.declared.view.RiderView.{RiderView}
use Rattle.hl_words.specs.declared.view.SeatView.{SeatView}
use Rattle.hl_words.specs.declared.view.Room.{Room}
use Rattle.hl_words.specs.declared.which.Which.{Which}
use Rattle.hl_words.specs.Views.{no_offsets, greatest_of, with_offset, fresh_from, touched, added, exchanged, with_loaded, looked, past_of, told, called, no_extent}
use Rattle.hl_words.specs.Rule.{EachRider, SomeRider, IsRuledAt}

-- a seat that knows these stores of the master's words, and stands for these riders
abbrev pub seat_of : OffsetWords → List RiderView → SeatView
seat_of last riders = record { offsets = last; riders = riders; called = no_extent; known = [] }

-- the master's seat, which knows these stores, stands for these riders, and knows how far the newest call left the list
abbrev pub master_seat : Extent → OffsetWords → List RiderView → SeatView
master_seat called last riders = record { offsets = last; riders = riders; called = called; known = [] }

-- a past's seat
abbrev pub knows_seat : Known → SeatView
knows_seat k = record { offsets = no_offsets; riders = []; called = no_extent; known = k ∷ [] }

-- a rider's seat
abbrev pub rider_seat : RiderView → SeatView
rider_seat r = seat_of no_offsets (r ∷ [])

-- a seat that was joined into another
abbrev pub spent_seat : SeatView
spent_seat = seat_of no_offsets []

-- the master's seat at the start, which stands for all riders
abbrev pub first_seat : Room → SeatView
first_seat room = seat_of no_offsets (fresh_from 0 room.riders)

-- the riders of all seats, in the order of the seats
abbrev pub riders_in : List SeatView → List RiderView
riders_in [] = []
riders_in (v ∷ vs) = v.riders ++ riders_in vs

-- the rider made these touches, and perhaps more since
abbrev pub HasPast : List Touch → RiderView → Type 0
HasPast past r = (more : List Touch) × (r.touches ≡ more ++ past)

-- some rider has this name, and made these touches
abbrev pub IsKnown : List RiderView → Known → Type 0
IsKnown riders k = SomeRider (λ i r. (r.name ≡ k.name) × HasPast k.touches r) riders

-- The table has eight unused words, then the cells and, eight words apart, the master's four words; the seats stand
-- for all riders, and the rule holds, the master having seat 0, which knows how far the newest call left the list; what
-- each past tells was done
pub record IsKept (room : Room) (words : List ℕ) (views : List SeatView) : Type 0 where
  pub master : SeatView
  pub seat : get_elem? views 0 ≡ some master
  pub width : length words ≡ room.cells + 27
  pub count : length (riders_in views) ≡ room.riders
  pub ruled : IsRuledAt room.cells (drop 8 words) master.offsets master.called (riders_in views)
  pub known : AllByRecursion (λ v. AllByRecursion (IsKnown (riders_in views)) v.known) views

-- the rule of the table
abbrev pub Holds : Room → State (Unit {0}) SeatView → Type 0
Holds room s = IsKept room s.words s.views

-- f of the first
abbrev pub at_first : (RiderView → RiderView) → List RiderView → List RiderView
at_first f [] = []
at_first f (r ∷ rs) = f r ∷ rs

-- the seat after its rider's view changed by f
abbrev pub moved : (RiderView → RiderView) → SeatView → SeatView
moved f v = seat_of v.offsets (at_first f v.riders)

-- of a store into a cell, which lies eight words behind its number: the rider's view has it
abbrev pub Stores : Step (Unit {0}) → Me (Unit {0}) SeatView → ℕ → Me (Unit {0}) SeatView → Type 0
Stores s before found after = after ≡ (moved (touched (Stored (s.word - 8) s.first)) before.0, before.1)

-- of a load of a cell: the rider's view has it
abbrev pub Loads : Step (Unit {0}) → Me (Unit {0}) SeatView → ℕ → Me (Unit {0}) SeatView → Type 0
Loads s before found after = after ≡ (moved (touched (Loaded (s.word - 8) found)) before.0, before.1)

-- of an add to a cell: the rider's view has the change
abbrev pub Adds : Step (Unit {0}) → Me (Unit {0}) SeatView → ℕ → Me (Unit {0}) SeatView → Type 0
Adds s before found after = after ≡ (moved (added (s.word - 8) s.first found) before.0, before.1)

-- of a compare and exchange of a cell: the rider's view has the change, or else the load
abbrev pub Exchanges : Step (Unit {0}) → Me (Unit {0}) SeatView → ℕ → Me (Unit {0}) SeatView → Type 0
Exchanges s before found after =
    after ≡ (moved (exchanged (s.word - 8) s.first s.second found) before.0, before.1)

-- of a load of a word of the master's: the rider's view has it, and the rider loaded no greater one before
abbrev pub Looks : Which → Step (Unit {0}) → Me (Unit {0}) SeatView → ℕ → Me (Unit {0}) SeatView → Type 0
Looks which s before found after = (after ≡ (moved (with_loaded which found) before.0, before.1))
    × EachRider (λ i r. greatest_of which (looked r.touches) ≤ found) before.0.riders

-- the master's seat after one more store
abbrev pub with_store : Which → ℕ → SeatView → SeatView
with_store which x v = record {
  offsets = with_offset which x v.offsets;
  riders = v.riders;
  called = v.called;
  known = v.known;
}

-- of a store of a word of the master's: it is the newest
abbrev pub Sets : Which → Step (Unit {0}) → Me (Unit {0}) SeatView → ℕ → Me (Unit {0}) SeatView → Type 0
Sets which s before found after =
    after ≡ (with_store which s.first before.0, before.1)

-- the seat without its first rider
abbrev pub left_seat : SeatView → SeatView
left_seat v = record { offsets = v.offsets; riders = drop 1 v.riders; called = v.called; known = v.known }

-- a seat with that rider alone
abbrev pub right_seat : SeatView → SeatView
right_seat v = seat_of no_offsets (take 1 v.riders)

-- the seat with another's riders before its own
abbrev pub joined_seat : SeatView → SeatView → SeatView
joined_seat v w =
    record { offsets = v.offsets; riders = w.riders ++ v.riders; called = v.called; known = v.known }

-- the seat without its first rider, which made a call that left the list so far
abbrev pub left_called : Extent → SeatView → SeatView
left_called e v = record { offsets = v.offsets; riders = drop 1 v.riders; called = e; known = v.known }

-- a seat with that rider alone, which made the call
abbrev pub right_called : Extent → SeatView → SeatView
right_called e v = seat_of no_offsets (map (called v.called e) (take 1 v.riders))

-- the seat as it is
abbrev pub same_seat : SeatView → SeatView
same_seat v = v

-- a past's seat, of what the riders of a seat did
abbrev pub shown_seat : SeatView → SeatView
shown_seat v = record { offsets = no_offsets; riders = []; called = no_extent; known = map past_of v.riders }

-- another of the same
abbrev pub copied_seat : SeatView → SeatView
copied_seat v = record { offsets = no_offsets; riders = []; called = no_extent; known = v.known }

-- the rider after it was told all this
abbrev pub told_all : List Known → RiderView → RiderView
told_all [] r = r
told_all (k ∷ ks) r = told k (told_all ks r)

-- a rider's seat that was told a past
abbrev pub told_seat : SeatView → SeatView → SeatView
told_seat v w = moved (told_all w.known) v

-- a seat that knows all this besides
abbrev pub knowing : List Known → SeatView → SeatView
knowing ks v = record { offsets = v.offsets; riders = v.riders; called = v.called; known = ks ++ v.known }

-- a seat that knows besides what a past tells
abbrev pub attested_seat : SeatView → SeatView → SeatView
attested_seat v w = knowing w.known v

-- of a load that makes a seat which stands for nobody
abbrev pub Blanks : Step (Unit {0}) → Me (Unit {0}) SeatView → ℕ → Me (Unit {0}) SeatView → Type 0
Blanks s before found after = after ≡ (spent_seat, [])
