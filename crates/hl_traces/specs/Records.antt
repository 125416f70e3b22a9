-- Records in a log: what threads that append records, and store nothing else, leave to whoever reads them.
use Rattle.std.specs.Prelude.{ℕ, ◌≡◌, ◌≢◌, ◌<◌, ◌≤◌, ◌+◌, ◌-◌, ◌⊎◌, List, [], ◌∷◌, ◌++◌, length, take, Some, slice_get}
use Rattle.std.specs.List.{flat_map}
use Rattle.hl_traces.specs.declared.act.Act.{Act}
use Rattle.hl_traces.specs.declared.act.Act.TheVariants.{Placed, Stored, Loaded, Met}
use Rattle.hl_traces.specs.OneTrace.{acts_by, by_thread, left_at, ActBy, AreOne}

-- a record that was placed at an address for these words, of which the first so many were stored: all of
-- them, unless its append was refused midway
pub record Appended : Type 0 where
  pub address : ℕ
  pub words : List ℕ
  pub count : ℕ

-- stores of these words from an address on, on top of others
abbrev pub stores_from : ℕ → List ℕ → List Act → List Act
stores_from a [] before = before
stores_from a (w ∷ ws) before = stores_from (a + 1) ws (Stored a w ∷ before)

-- loads of these words from an address on, on top of others
abbrev pub loads_from : ℕ → List ℕ → List Act → List Act
loads_from a [] before = before
loads_from a (w ∷ ws) before = loads_from (a + 1) ws (Loaded a w ∷ before)

-- what its append did, the newest act first
abbrev pub append_acts : Appended → List Act
append_acts r = stores_from r.address (take r.count r.words) (Placed r.address (length r.words) ∷ [])

-- the acts that place or store
abbrev pub changes : List Act → List Act
changes [] = []
changes (Loaded a v ∷ before) = changes before
changes (Met n ∷ before) = changes before
changes (t ∷ before) = t ∷ changes before

-- these acts append these records, and place and store nothing else; the newest stands first
abbrev pub AppendsOnly : List Appended → List Act → Type 0
AppendsOnly records own = changes own ≡ flat_map append_acts records

-- so do those of each thread
abbrev pub AllAppend : (ℕ → List Appended) → List ActBy → Type 0
AllAppend records all = (i : ℕ) → AppendsOnly (records i) (acts_by i all)

-- Two records, of one thread or of two, share no address
abbrev pub RecordsAreApart : Type 0
RecordsAreApart = (all : List ActBy) (records : ℕ → List Appended) → AreOne all → AllAppend records all
    → (i k j l : ℕ) (r s : Appended) → slice_get (records i) k ≡ Some r → slice_get (records j) l ≡ Some s
    → ((i ≡ j) × (k ≡ l))
    ⊎ ((r.address + length r.words ≤ s.address) ⊎ (s.address + length s.words ≤ r.address))

-- Each word that was stored of a record is left there
abbrev pub RecordsStay : Type 0
RecordsStay = (all : List ActBy) (records : ℕ → List Appended) → AreOne all → AllAppend records all
    → (i k m v : ℕ) (r : Appended) → slice_get (records i) k ≡ Some r → m < r.count
    → slice_get r.words m ≡ Some v → left_at (r.address + m) all ≡ v

-- A load in a record finds 0, or the word that was appended
abbrev pub RecordsAreFound : Type 0
RecordsAreFound = (all : List ActBy) (records : ℕ → List Appended) → AreOne all → AllAppend records all
    → (i k m v : ℕ) (r : Appended) → slice_get (records i) k ≡ Some r → slice_get r.words m ≡ Some v
    → (newer before : List ActBy) (j x : ℕ)
    → all ≡ newer ++ by_thread j (Loaded (r.address + m) x) ∷ before → (x ≡ 0) ⊎ (x ≡ v)

-- Whoever found another word than 0 in a record finds from then on that word, and each one before it in the
-- record, as it was appended; so after the record's last word, if that isn't 0, the whole record
abbrev pub RecordsAreRead : Type 0
RecordsAreRead = (all : List ActBy) (records : ℕ → List Appended) → AreOne all → AllAppend records all
    → (i k m l v : ℕ) (r : Appended) → slice_get (records i) k ≡ Some r → m < length r.words → l ≤ m
    → slice_get r.words l ≡ Some v
    → (newer between before : List ActBy) (j n x y : ℕ)
    → all ≡ newer ++ by_thread j (Loaded (r.address + l) y)
    ∷ (between ++ by_thread n (Loaded (r.address + m) x) ∷ before)
    → x ≢ 0 → y ≡ v

-- So whoever loads in a row as many words as a record has, after a load of its own that found the record's last word, other
-- than 0, has the whole record
abbrev pub RecordsAreWhole : Type 0
RecordsAreWhole = (all : List ActBy) (records : ℕ → List Appended) → AreOne all → AllAppend records all
    → (i k j x : ℕ) (r : Appended) (words : List ℕ) (later between base : List Act)
    → slice_get (records i) k ≡ Some r → acts_by j all
    ≡ later ++ loads_from r.address words (between ++ Loaded (r.address + (length words - 1)) x ∷ base)
    → length words ≡ length r.words → 0 < length words → x ≢ 0 → words ≡ r.words

-- A thread that found another word than 0 in a record found the record's
abbrev pub RecordsAreFoundBy : Type 0
RecordsAreFoundBy = (all : List ActBy) (records : ℕ → List Appended) → AreOne all → AllAppend records all
    → (i k j x m v : ℕ) (r : Appended) (later base : List Act) → slice_get (records i) k ≡ Some r
    → slice_get r.words m ≡ Some v → acts_by j all ≡ later ++ Loaded (r.address + m) x ∷ base → x ≢ 0
    → x ≡ v

-- at this address lies a word that was stored of one of these records, and this is the word
abbrev pub IsWordOf : (ℕ → List Appended) → ℕ → ℕ → Type 0
IsWordOf records a v = (i k m : ℕ) × (r : Appended) × (slice_get (records i) k ≡ Some r) × (m < r.count)
    × (slice_get r.words m ≡ Some v) × (r.address + m ≡ a)

-- Where no word of a record was stored there is 0: each other word that is left is one of a record
abbrev pub OthersAreZero : Type 0
OthersAreZero = (all : List ActBy) (records : ℕ → List Appended) → AllAppend records all → (a : ℕ)
    → (left_at a all ≡ 0) ⊎ IsWordOf records a (left_at a all)
