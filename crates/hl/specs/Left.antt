-- What is left at an address once a log was closed: in memory, or on its device.
use Rattle.std.specs.Prelude.{◌≡◌, ℕ, ◌+◌, ◌*◌, ◌/◌, ◌<◌, ◌^◌, ◌⊎◌, ◌≢◌, nat_le, if◌then◌else◌, Option, Some, None, List, length, drop, slice_get}
use Rattle.byteorder.specs.Endian.{big_number}
use Rattle.hl_model.specs.Sizes.{Sizes}
use Rattle.hl_keeper.specs.Endings.{EndingState}
use Rattle.hl_traces.specs.OneTrace.{ActBy, left_at, AreOne}
use Rattle.hl_traces.specs.Records.{Appended, AllAppend, IsWordOf}
use Rattle.hl.specs.declared.memory.MemoryDevice.{MemoryDevice}
use Rattle.hl.specs.Devices.{on_memory, Differs}
use Rattle.hl.specs.Threads.{HoldsTrace}
use Rattle.hl.specs.Uses.{AreNumbers}

-- the k-th word in the bytes of a page's image: of 8 bytes, behind the 8 of the page's number; none, if there are too few
abbrev pub word_in : ℕ → List ℕ → Option ℕ
word_in k bytes =
    if nat_le (16 + 8 * k) (length bytes) then Some (big_number 8 (drop (8 + 8 * k) bytes)) else None

-- A word that was read at an address is what these acts leave there, if memory and device have what they leave; or none was
-- read, since the device has two images of its page that differ
abbrev pub IsLeft : {F : Type 0} → Sizes → MemoryDevice → EndingState F → ℕ → Option ℕ → Type 0
IsLeft sizes device ending a read = (all : List ActBy) → HoldsTrace sizes (on_memory device) ending all
    → left_at a all < 2 ^ 64 → a < ending.snapshot.six.tail
    → (read ≡ Some (left_at a all)) ⊎ ((read ≡ None) × Differs device (a / sizes.page_size))

-- these words were read at the addresses from 0 up to the tail
abbrev pub AreLeft : {F : Type 0} → Sizes → MemoryDevice → EndingState F → List ℕ → Type 0
AreLeft sizes device ending words = (length words ≡ ending.snapshot.six.tail)
    × ((a w : ℕ) → slice_get words a ≡ Some w → IsLeft sizes device ending a (Some w))

-- in these words each record has those of its words that were stored; every other is 0
pub record HaveRecords (words : List ℕ) (records : ℕ → List Appended) : Type 0 where
  pub stored : (i k m v : ℕ) (r : Appended) → slice_get (records i) k ≡ Some r → m < r.count
      → slice_get r.words m ≡ Some v → r.address + m < length words
      → slice_get words (r.address + m) ≡ Some v
  pub within : (i k m v : ℕ) (r : Appended) → slice_get (records i) k ≡ Some r → m < r.count
      → slice_get r.words m ≡ Some v → v ≢ 0 → r.address + m < length words
  pub others : (a v : ℕ) → slice_get words a ≡ Some v → (v ≡ 0) ⊎ IsWordOf records a v

-- The words of a log whose threads appended records, and stored nothing else, are those of the records, and 0 elsewhere
abbrev pub WordsAreRecords : Type 0 → Type 0
WordsAreRecords F = (sizes : Sizes) (device : MemoryDevice) (ending : EndingState F) (words : List ℕ)
    (all : List ActBy) (records : ℕ → List Appended) → AreLeft sizes device ending words
    → HoldsTrace sizes (on_memory device) ending all → AreOne all → AllAppend records all
    → ((i k : ℕ) (r : Appended) → slice_get (records i) k ≡ Some r → AreNumbers r.words)
    → HaveRecords words records
