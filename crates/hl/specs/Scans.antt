-- How the records of a closed log are found in its words, one after another.
use Rattle.std.specs.Prelude.{ℕ, ◌≡◌, ◌≢◌, ◌<◌, ◌≤◌, ◌+◌, ◌-◌, ◌⊎◌, Bool, true, Some, List, [], ◌∷◌, ◌++◌, length, slice_get, get_or}
use Rattle.hl_model.specs.Sizes.{Sizes}
use Rattle.hl_keeper.specs.Endings.{EndingState}
use Rattle.hl_traces.specs.OneTrace.{ActBy, AreOne}
use Rattle.hl_traces.specs.Records.{Appended}
use Rattle.hl.specs.declared.memory.MemoryDevice.{MemoryDevice}
use Rattle.hl.specs.Devices.{on_memory}
use Rattle.hl.specs.Left.{AreLeft}
use Rattle.hl.specs.Threads.{HoldsTrace}
use Rattle.hl.specs.Uses.{whole, AllHaveAppended}

-- these are the whole ones of such records, with the addresses at which they lie, in the order of these
pub record AreWhole (records : ℕ → List Appended) (found : List (ℕ × List ℕ)) : Type 0 where
  pub each : (n : ℕ) (row : ℕ × List ℕ) → slice_get found n ≡ Some row
      → (i k : ℕ) × (slice_get (records i) k ≡ Some (whole row.0 row.1))
  pub all : (i k a : ℕ) (words : List ℕ) → slice_get (records i) k ≡ Some (whole a words)
      → (n : ℕ) × (slice_get found n ≡ Some (a, words))
  pub order : (n m : ℕ) (row next : ℕ × List ℕ) → n < m → slice_get found n ≡ Some row
      → slice_get found m ≡ Some next → row.0 < next.0

-- these are those that begin below an address, across which no record lies of which something was stored
pub record AreBelow (records : ℕ → List Appended) (a : ℕ) (found : List (ℕ × List ℕ)) : Type 0 where
  pub each : (n : ℕ) (row : ℕ × List ℕ) → slice_get found n ≡ Some row
      → ((i k : ℕ) × (slice_get (records i) k ≡ Some (whole row.0 row.1))) × (row.0 < a)
  pub all : (i k b : ℕ) (words : List ℕ) → slice_get (records i) k ≡ Some (whole b words) → b < a
      → (n : ℕ) × (slice_get found n ≡ Some (b, words))
  pub order : (n m : ℕ) (row next : ℕ × List ℕ) → n < m → slice_get found n ≡ Some row
      → slice_get found m ≡ Some next → row.0 < next.0
  pub clear : (i k : ℕ) (r : Appended) → slice_get (records i) k ≡ Some r → 0 < r.count
      → (r.address + length r.words ≤ a) ⊎ (a ≤ r.address)

-- such a row of words lies at the address, whole, and is found next
pub record IsWholeAt (words : List ℕ) (records : ℕ → List Appended) (a : ℕ) (found : List (ℕ × List ℕ))
    (row : List ℕ) : Type 0 where
  pub inside : a + length row ≤ length words
  pub there : (m d : ℕ) → m < length row → get_or words (a + m) d ≡ get_or row m d
  pub next : AreBelow records (a + length row) (found ++ (a, row) ∷ [])

-- the append of such a row at the address was refused midway: its last word isn't there, and it is passed
pub record IsRefusedAt (words : List ℕ) (records : ℕ → List Appended) (a : ℕ) (found : List (ℕ × List ℕ))
    (row : List ℕ) : Type 0 where
  pub last : (v : ℕ) → slice_get words (a + (length row - 1)) ≡ Some v → v ≡ 0
  pub next : AreBelow records (a + length row) found

-- All records can be found in these words: from address 0 on, a word of 0 is passed; any other is the first of an `ok` row,
-- behind which the next is looked for, up to the words' end
pub record CanScan (ok : List ℕ → Bool) (words : List ℕ) (records : ℕ → List Appended) : Type 0 where
  pub start : AreBelow records 0 []
  pub pass : (a : ℕ) (found : List (ℕ × List ℕ)) → AreBelow records a found → slice_get words a ≡ Some 0
      → AreBelow records (a + 1) found
  pub over : (a v : ℕ) (found : List (ℕ × List ℕ)) → AreBelow records a found → slice_get words a ≡ Some v
      → v ≢ 0 → (row : List ℕ) × (ok row ≡ true) × (get_or row 0 0 ≡ v)
      × (IsWholeAt words records a found row ⊎ IsRefusedAt words records a found row)
  pub end : (a : ℕ) (found : List (ℕ × List ℕ)) → AreBelow records a found → length words ≤ a
      → AreWhole records found

-- an `ok` row neither begins nor ends with 0
abbrev pub HasEnds : (List ℕ → Bool) → Type 0
HasEnds ok = (row : List ℕ) → ok row ≡ true → (get_or row 0 0 ≢ 0) × (get_or row (length row - 1) 0 ≢ 0)

-- these are just those rows that threads tell, with their addresses, in the order of these
pub record AreTold {Out : Type 0} (found : List (ℕ × List ℕ)) (outs : List Out)
    (entries : Out → List (ℕ × List ℕ)) : Type 0 where
  pub each : (n : ℕ) (row : ℕ × List ℕ) → slice_get found n ≡ Some row → (i m : ℕ) × (out : Out)
      × (slice_get outs i ≡ Some out) × (slice_get (entries out) m ≡ Some row)
  pub all : (i m : ℕ) (out : Out) (row : ℕ × List ℕ) → slice_get outs i ≡ Some out
      → slice_get (entries out) m ≡ Some row → (n : ℕ) × (slice_get found n ≡ Some row)
  pub order : (n m : ℕ) (row next : ℕ × List ℕ) → n < m → slice_get found n ≡ Some row
      → slice_get found m ≡ Some next → row.0 < next.0

-- All that threads appended is found in the words of their log, where no row begins or ends with 0: just those rows that they
-- tell
abbrev pub RecordsAreScanned : Type 0 → Type 0 → Type 0
RecordsAreScanned F Out = (ok : List ℕ → Bool) (sizes : Sizes) (device : MemoryDevice) (ending : EndingState F)
    (words : List ℕ) (all : List ActBy) (outs : List Out) (entries : Out → List (ℕ × List ℕ)) → HasEnds ok
    → AreLeft sizes device ending words → HoldsTrace sizes (on_memory device) ending all → AreOne all
    → (told : AllHaveAppended ok all outs entries) → CanScan ok words told.records
    × ((found : List (ℕ × List ℕ)) → AreWhole told.records found → AreTold found outs entries)
