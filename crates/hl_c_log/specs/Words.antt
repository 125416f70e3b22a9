-- What a call of a pass without the lock makes of its handle.
use Rattle.std.specs.Prelude.{◌≡◌, ℕ, if◌then◌else◌, Option, Some, None, List, length, IfSome}
use Rattle.hl_model.specs.declared.step.Reply.TheVariants.{Value, Looked, Readable}
use Rattle.hl_model.specs.Replies.{unless_fault, unless_refused}
use Rattle.hl_model.specs.declared.fault.Fault.{Fault}
use Rattle.hl_model.specs.declared.view.View.{View}
use Rattle.hl_answers.specs.declared.outcome.Brief.{Brief}
use Rattle.hl_answers.specs.declared.outcome.Outcome.{Outcome}
use Rattle.hl_answers.specs.Outcomes.{accepted, brief_of, fault_outcome, no_core, reply_outcome, outcome_of}
use Rattle.hl_pass.specs.declared.news.News.{News}
use Rattle.hl_words.specs.declared.view.RiderView.{RiderView}
use Rattle.hl_words.specs.declared.which.Which.TheVariants.{ReadOnly as READ_ONLY, Head as HEAD, SafeReadOnly as SAFE}
use Rattle.hl_words.specs.Views.{with_loaded}
use Rattle.hl_log.specs.Loads.{loaded_news, loaded_row, IsLaterNews}
use Rattle.hl_log.specs.Passes.{cell_of, with_act, with_look, IsLaterLoad}
use Rattle.hl_log.specs.Addresses.{region_fault, region_of, row_fault}
use Rattle.hl_pass.specs.declared.region.Region.{Region}
use Rattle.hl_pass.specs.declared.region.Region.TheVariants.{Mutable, Fuzzy, ReadOnly, Evicted}
use Rattle.hl_pass.specs.Views.{raised, is_current}
use Rattle.hl_c_log.specs.Rows.{PassRow}

-- what is told of a fault, or of this word where there is none
abbrev pub word_told : Option Fault → ℕ → Brief
word_told fault found = brief_of (outcome_of (unless_fault fault (Value found)))

-- a pass judged this by what it sees, and its rider did it to the address's cell, or nothing where it was refused; the
-- brief tells the word that was found, or 0 of a store. Where there is no pass, none is there after, and the brief says so
abbrev pub Does : (View → ℕ → Option Fault) → (ℕ → RiderView → RiderView) → Option PassRow.Denot → ℕ → ℕ
    → Option PassRow.Denot
    → Brief
    → Type 0
Does fault act None a found new brief = (brief ≡ brief_of no_core) × (new ≡ None)
Does fault act (Some p) a found new brief = let met = fault p.own.view a in
    (new ≡ Some (unless_refused met p (with_act (act (cell_of p a)) p))) × (brief ≡ word_told met found)

-- a pass loaded words into so many places, or judged by what it sees that it may not, and left the places as they were
abbrev pub LoadsRow : Option PassRow.Denot → ℕ → List ℕ → Option PassRow.Denot → List ℕ → Brief → Type 0
LoadsRow None a places new words brief = (brief ≡ brief_of no_core) × (new ≡ None) × (words ≡ places)
LoadsRow (Some p) a places new words brief = let met = row_fault p.own.view a (length places) in
    (new ≡ Some (unless_refused met p (with_act (loaded_row p.shared.sizes a words) p)))
    × (brief ≡ brief_of (outcome_of (unless_fault met Readable)))
    × (length words ≡ length places) × IfSome met (λ _. words ≡ places)

-- a pass saw the two offsets that it loaded, neither below what it loaded of that word before, where they are above its own,
-- and tells what it sees
abbrev pub Looks : Option PassRow.Denot → Option PassRow.Denot → Outcome → Type 0
Looks None new outcome = (outcome ≡ no_core) × (new ≡ None)
Looks (Some p) new outcome = (loaded : ℕ × ℕ) × IsLaterLoad READ_ONLY p loaded.0 × IsLaterLoad HEAD p loaded.1
    × (new ≡ Some (with_look loaded.0 loaded.1 p))
    × (outcome ≡ reply_outcome (Looked (raised p.own.view loaded.0 loaded.1)))

-- a pass loaded three words, none below what it loaded of that word before, and tells whether none of them is new to it
abbrev pub KeepsUp : Option PassRow.Denot → Option PassRow.Denot → ℕ → Type 0
KeepsUp None new number = (number ≡ 255) × (new ≡ None)
KeepsUp (Some p) new number = (news : News) × IsLaterNews news p.rider.view
    × (new ≡ Some (with_act (loaded_news news) p))
    × (number ≡ (if is_current p.own.view p.own.epoch news then 1 else 0))

-- a region as a number
abbrev pub region_number : Region → ℕ
region_number Mutable = 1
region_number Fuzzy = 2
region_number ReadOnly = 3
region_number Evicted = 4

-- what is told of a fault, or of this region with the safe read-only offset that was loaded
abbrev pub region_told : Option Fault → Region → ℕ → Outcome
region_told (Some fault) region safe_read_only = fault_outcome fault
region_told None region safe_read_only = accepted (region_number region) safe_read_only 0 0

-- a pass told the region of an address, by what it sees and the safe read-only offset that it loaded, which the outcome
-- has, and which isn't below what it loaded of that before
abbrev pub TellsRegion : Option PassRow.Denot → ℕ → Option PassRow.Denot → Outcome → Type 0
TellsRegion None a new outcome = (outcome ≡ no_core) × (new ≡ None)
TellsRegion (Some p) a new outcome =
    (new ≡ Some (unless_refused (region_fault p.own.view a) p (with_act (with_loaded SAFE outcome.b) p)))
    × (region_fault p.own.view a ≡ None → IsLaterLoad SAFE p outcome.b)
    × (outcome ≡ region_told (region_fault p.own.view a) (region_of p.own.view outcome.b a) outcome.b)
