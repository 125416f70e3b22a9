-- What threads that append records and read them tell, and what is found once the log is closed.
use Rattle.std.specs.Prelude.{ℕ, ◌≡◌, ◌≢◌, ◌<◌, ◌+◌, ◌-◌, ◌==◌, ◌&&◌, not, Bool, Some, Ok, List, [], ◌∷◌, ◌++◌, length, map, slice_get, get_or}
use Rattle.hl_traces.specs.declared.act.Act.{Act}
use Rattle.hl_traces.specs.declared.act.Act.TheVariants.{Loaded}
use Rattle.hl_traces.specs.Records.{Appended, changes, loads_from}
use Rattle.hl.specs.Scans.{AreTold as AreFound, AreWhole, CanScan}
use Rattle.hl.specs.Sessions.{SessionState}
use Rattle.hl.specs.Traces.{Told}
use Rattle.hl.specs.Uses.{HasAppended}
use Rattle.example_records.specs.declared.keeping.Kept.{Kept}
use Rattle.example_records.specs.declared.storing.Entry.{Entry}
use Rattle.example_records.specs.declared.storing.Report.{Report}

-- the words of a record: how many they are, its contents, and a last one
abbrev pub framed : List ℕ → List ℕ
framed contents = (length contents + 2) ∷ (contents ++ 1 ∷ [])

-- a row of words that begins with its length, and doesn't end with 0
abbrev pub is_framed : List ℕ → Bool
is_framed words = (get_or words 0 0 == length words) && not (get_or words (length words - 1) 0 == 0)

-- between the two more was done, and nothing was placed or stored
abbrev pub LoadedOn : List Act → List Act → Type 0
LoadedOn old new = (own : List Act) × (new ≡ own ++ old) × (changes new ≡ changes old)

-- among these acts this row was read: its length first, then its last word, which wasn't 0, and then all
abbrev pub IsRead : List Act → ℕ → List ℕ → Type 0
IsRead own a words = (later base : List Act) × (last : ℕ) × (own ≡ later
    ++ loads_from a words (Loaded (a + (length words - 1)) last ∷ Loaded a (length words) ∷ base))
    × (0 < length words) × (last ≢ 0)

-- records, each with its address and its words
abbrev pub rows_of : List Entry → List (ℕ × List ℕ)
rows_of entries = map (λ e. (e.address, e.words.items)) entries

-- these acts are appends of framed rows, just these, and loads, among them those of what is said to be read
pub record AreTold (own : List Act) (appended read : List Entry) : Type 0 where
  pub appends : HasAppended is_framed own (rows_of appended)
  pub reads : (n : ℕ) (e : Entry) → slice_get read n ≡ Some e → IsRead own e.address e.words.items

-- what was told of the old acts holds of the new ones
abbrev pub KeepsTold : List Act → List Act → Type 0
KeepsTold old new = (appended read : List Entry) → AreTold old appended read → AreTold new appended read

-- and a record of these words was appended at this address besides
abbrev pub AddsTold : List ℕ → List Act → List Act → ℕ → Type 0
AddsTold words old new a = (e : Entry) → e.address ≡ a → e.words.items ≡ words
    → (appended read : List Entry) → AreTold old appended read → AreTold new (appended ++ e ∷ []) read

-- so it is with what a report says
abbrev pub Tells : List Act → Report → Type 0
Tells own report = AreTold own report.appended.items report.read.items

-- so a thread returns
abbrev pub returns_report : SessionState → SessionState → Report → Type 0
returns_report = Told Tells

-- each of these was read, where it is at the address of a record that a thread appended, as that was appended
abbrev pub AreAsAppended : List Entry → List Report → Type 0
AreAsAppended read reports = (n i m : ℕ) (e f : Entry) (report : Report) → slice_get read n ≡ Some e
    → slice_get reports i ≡ Some report → slice_get report.appended.items m ≡ Some f → f.address ≡ e.address
    → e.words.items ≡ f.words.items

-- where such records lie, just the whole ones were found
abbrev pub AreScanned : List ℕ → List Entry → Type 0
AreScanned words found = (records : ℕ → List Appended) → CanScan is_framed words records
    → AreWhole records (rows_of found)

-- Records were kept: what a thread read at the address of a record that a thread appended is that record; and at the end
-- memory and device together have just the records that the threads appended
pub record AreKept (kept : Kept) : Type 0 where
  pub read : (reports : List Report) → kept.reports.items ≡ map (λ report. Ok report) reports
      → (i : ℕ) (report : Report) → slice_get reports i ≡ Some report
      → AreAsAppended report.read.items reports
  pub found : (reports : List Report) → kept.reports.items ≡ map (λ report. Ok report) reports
      → AreFound (rows_of kept.found.items) reports (λ report. rows_of report.appended.items)
