-- What a log is at, as a text.
use Rattle.std.specs.Prelude.{◌≡◌, ℕ, Option, Some, None, Result, MatchResult, List, [], ◌∷◌, ◌++◌, length, take, codes, ◌==◌, if◌then◌else◌}
use Rattle.std.specs.List.{flat_map}
use Rattle.std.specs.Io.KnownBytes.{Appends}
use Rattle.hl_model.specs.declared.fault.Fault.{Fault}
use Rattle.hl_model.specs.declared.fault.Fault.TheVariants.{Stream}
use Rattle.hl_model.specs.declared.snapshot.Snapshot.{Snapshot}
use Rattle.hl_model.specs.Snapshots.{snapshot_of}
use Rattle.hl_core.specs.declared.holders.Holder.{Holder}
use Rattle.hl_core.specs.Holding.{oldest, holders}
use Rattle.hl_line.specs.Streams.{BreaksOff}
use Rattle.hl_monitor.specs.Reports.{line_of, report_text}
use Rattle.hl_words.specs.States.{RiderState}
use Rattle.hl_domain.specs.Domains.{DomainState, UnderLock}
use Rattle.hl_domain.specs.Riders.{LooksAtAll, LooksAtHolders}

-- the lines of a slot that holds an action up: its number, and its epoch
abbrev pub holder_text : Holder → List ℕ
holder_text holder = flat_map line_of ((codes "holder", holder.slot) ∷ (codes "at_epoch", holder.epoch) ∷ [])

-- the lines of an action: its ticket, and those of who holds it up
abbrev pub action_text : ℕ → List Holder → List ℕ
action_text ticket holding = flat_map line_of ((codes "oldest", ticket) ∷ []) ++ flat_map holder_text holding

-- those of the oldest action, if one is pending
abbrev pub oldest_text : Option ℕ → List Holder → List ℕ
oldest_text None holding = []
oldest_text (Some ticket) holding = action_text ticket holding

-- the line of how many of the newest writes the device refused, if it refused any
abbrev pub refused_text : ℕ → List ℕ
refused_text refused =
    if refused == 0 then [] else flat_map line_of ((codes "refused_writes", refused) ∷ [])

-- the report of a log: of all quantities of a list that was met under the lock, and behind them of who held up the oldest
-- action of a list that was met there
pub record IsReport (F : Type 0) (log : DomainState) (text : List ℕ) : Type 0 where
  pub now : Snapshot
  pub steps : ℕ
  pub cut : ℕ
  pub met : UnderLock F log (λ k A. (now ≡ snapshot_of k.core.sizes A)
      × (steps ≡ length k.journal) × (cut ≡ k.cut))
  pub ticket : Option ℕ
  pub holding : List Holder
  pub held : UnderLock F log (λ k A. (ticket ≡ oldest A)
      × (holding ≡ take 64 (holders k.core.sizes.slots A)))
  pub text_is : text ≡ report_text now steps cut ++ oldest_text ticket holding

-- a report of a log was written; or a beginning of one, and not all of it, since a write failed
abbrev pub Reports : (F : Type 0) → DomainState → Result (Unit {0}) Fault → Option (List ℕ)
    → Option (List ℕ) → Type 0
Reports F log result old new = (text : List ℕ) × IsReport F log text
    × MatchResult result (λ _. Appends old new text) (λ fault. (fault ≡ Stream) × BreaksOff old new text)

-- the same by a rider's two calls: the first was told all quantities of the list that it met, the second who held up the
-- oldest action of the list that it met; and behind it so many refused writes
pub record IsReportBy (F : Type 0) (log : DomainState) (old new : RiderState) (text : List ℕ) : Type 0 where
  pub told : Snapshot × ℕ × ℕ
  pub mid : RiderState
  pub met : LooksAtAll F log told old mid
  pub ticket : Option ℕ
  pub holding : List Holder
  pub held : LooksAtHolders F log 64 ticket holding mid new
  pub refused : ℕ
  pub text_is : text ≡ (report_text told.0 told.1 told.2 ++ oldest_text ticket holding) ++ refused_text refused

-- such a report was written, or a beginning of one
abbrev pub ReportsBy : (F : Type 0) → DomainState → Result (Unit {0}) Fault → RiderState → RiderState
    → Option (List ℕ) → Option (List ℕ) → Type 0
ReportsBy F log result old new before after = (text : List ℕ) × IsReportBy F log old new text
    × MatchResult result (λ _. Appends before after text)
    (λ fault. (fault ≡ Stream) × BreaksOff before after text)
