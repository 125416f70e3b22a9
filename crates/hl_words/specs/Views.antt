-- What a rider's view is after one more store or load, and the master's four words by name.
use Rattle.std.specs.Prelude.{ℕ, zero, suc, ◌+◌, ◌%◌, ◌^◌, ◌==◌, if◌then◌else◌, List, [], ◌∷◌, length}
use Rattle.hl_model.specs.Lists.{greatest}
use Rattle.hl_words.specs.declared.view.Touch.{Touch}
use Rattle.hl_words.specs.declared.view.Touch.TheVariants.{Stored, Loaded, Changed, Called, Looked, Met}
use Rattle.hl_words.specs.declared.view.Extent.{Extent}
use Rattle.hl_words.specs.declared.view.Known.{Known}
use Rattle.hl_words.specs.declared.view.OffsetWords.{OffsetWords}
use Rattle.hl_words.specs.declared.view.RiderView.{RiderView}
use Rattle.hl_words.specs.declared.which.Which.{Which}
use Rattle.hl_words.specs.declared.which.Which.TheVariants.{ReadOnly, Head, Ended, SafeReadOnly}

-- the master's words before any store or load
abbrev pub no_offsets : OffsetWords
no_offsets = record { read_only = []; head = []; ended = []; safe_read_only = [] }

-- the newest of these values, which stands first, or the 0 that a word has before any store
abbrev pub newest : List ℕ → ℕ
newest [] = 0
newest (x ∷ before) = x

-- the newest of the one
abbrev pub offset_of : Which → OffsetWords → ℕ
offset_of ReadOnly o = newest o.read_only
offset_of Head o = newest o.head
offset_of Ended o = newest o.ended
offset_of SafeReadOnly o = newest o.safe_read_only

-- the greatest of the one, or 0
abbrev pub greatest_of : Which → OffsetWords → ℕ
greatest_of ReadOnly o = greatest (λ x. x) o.read_only
greatest_of Head o = greatest (λ x. x) o.head
greatest_of Ended o = greatest (λ x. x) o.ended
greatest_of SafeReadOnly o = greatest (λ x. x) o.safe_read_only

-- the same with x as the newest of the one
abbrev pub with_offset : Which → ℕ → OffsetWords → OffsetWords
with_offset ReadOnly x o = record (o) { read_only = x ∷ o.read_only }
with_offset Head x o = record (o) { head = x ∷ o.head }
with_offset Ended x o = record (o) { ended = x ∷ o.ended }
with_offset SafeReadOnly x o = record (o) { safe_read_only = x ∷ o.safe_read_only }

-- where a word of the master's lies: behind this many cells and eight words more, so that no line of a cache
-- has one of them beside a cell
abbrev pub place_of : Which → ℕ → ℕ
place_of ReadOnly cells = cells + 8
place_of Head cells = cells + 9
place_of Ended cells = cells + 10
place_of SafeReadOnly cells = cells + 11

-- the view of the rider of this name that did nothing
abbrev pub fresh : ℕ → RiderView
fresh name = record { name = name; touches = [] }

-- n of them, named from a number on
abbrev pub fresh_from : ℕ → ℕ → List RiderView
fresh_from name zero = []
fresh_from name (suc n) = fresh name ∷ fresh_from (suc name) n

-- the first of all
abbrev pub unused : RiderView
unused = fresh 0

-- the view after one more touch
abbrev pub touched : Touch → RiderView → RiderView
touched e r = record { name = r.name; touches = e ∷ r.touches }

-- the view after a store of the value into the cell
abbrev pub stored : ℕ → ℕ → RiderView → RiderView
stored cell value r = touched (Stored cell value) r

-- the view after a load of the cell that gave the value
abbrev pub loaded : ℕ → ℕ → RiderView → RiderView
loaded cell value r = touched (Loaded cell value) r

-- the view after one step that found the one value in the cell and stored the other there
abbrev pub changed : ℕ → ℕ → ℕ → RiderView → RiderView
changed cell found value r = touched (Changed cell found value) r

-- the view after an add of a number to the cell, modulo 2^64, which found this
abbrev pub added : ℕ → ℕ → ℕ → RiderView → RiderView
added cell more found r = changed cell found ((found + more) % 2 ^ 64) r

-- the view after a compare and exchange of the cell, which found this: a change if that is the old value,
-- else a load
abbrev pub exchanged : ℕ → ℕ → ℕ → ℕ → RiderView → RiderView
exchanged cell old new found r =
    if found == old then changed cell found new r else loaded cell found r

-- the view after a load of a word of the master's that gave x
abbrev pub with_loaded : Which → ℕ → RiderView → RiderView
with_loaded which x r = touched (Looked which x) r

-- what these touches loaded of each of the master's words
abbrev pub looked : List Touch → OffsetWords
looked [] = no_offsets
looked (Stored d v ∷ before) = looked before
looked (Loaded d v ∷ before) = looked before
looked (Changed d found v ∷ before) = looked before
looked (Called met left ∷ before) = looked before
looked (Looked which x ∷ before) = with_offset which x (looked before)
looked (Met name count ∷ before) = looked before

-- what a past of this rider tells
abbrev pub past_of : RiderView → Known
past_of r = record { name = r.name; touches = r.touches }

-- the view after the rider was told a past
abbrev pub told : Known → RiderView → RiderView
told k r = touched (Met k.name (length k.touches)) r

-- the one list before its first step
abbrev pub no_extent : Extent
no_extent = record { steps = 0; cut = 0 }

-- the view after a call under the master's lock, which met the one list so far and left it so far
abbrev pub called : Extent → Extent → RiderView → RiderView
called met left r = touched (Called met left) r

-- the view after stores of 0 into n cells from a cell on
unfoldable pub zeroed : ℕ → ℕ → RiderView → RiderView
zeroed cell zero view = view
zeroed cell (suc n) view = stored (cell + n) 0 (zeroed cell n view)

-- the view after loads of these words from as many cells from a cell on
unfoldable pub loaded_all : ℕ → List ℕ → RiderView → RiderView
loaded_all cell [] view = view
loaded_all cell (w ∷ ws) view = loaded_all (cell + 1) ws (loaded cell w view)
