-- What a seal makes of both handles.
use Rattle.std.specs.Prelude.{◌≡◌, ℕ, true, Option, Some, None, Result, Ok, Err, List}
use Rattle.hl_model.specs.declared.fault.Fault.{Fault}
use Rattle.hl_model.specs.declared.step.Step.{Step}
use Rattle.hl_model.specs.declared.step.Step.TheVariants.{Look}
use Rattle.hl_model.specs.Replies.{fault_of}
use Rattle.hl_answers.specs.declared.outcome.Outcome.{Outcome}
use Rattle.hl_answers.specs.Outcomes.{accepted, fault_outcome, no_core}
use Rattle.hl_log.specs.declared.sealed.Sealed.{Sealed}
use Rattle.hl_log.specs.Calls.{is_known, KnownAt}
use Rattle.hl_log.specs.Logs.{StandsAt}
use Rattle.hl_log.specs.Seals.{seal_reply, seal_list, seal_pass, Leads, IsAlike}
use Rattle.hl_c_log.specs.Rows.{LogRow, PassRow}

-- an address, and 1 with a ticket, if there is one
abbrev pub sealed_told : ℕ → Option ℕ → Outcome
sealed_told address None = accepted address 0 0 0
sealed_told address (Some ticket) = accepted address 1 ticket 0

-- up to where all is sealed, and 1 with the ticket of the settle, if one was stored; or the fault
abbrev pub sealed_outcome : Result Sealed Fault → Outcome
sealed_outcome (Ok sealed) = sealed_told sealed.address sealed.ticket
sealed_outcome (Err fault) = fault_outcome fault

-- a log that stood at A told this of a seal by a pass: that the pass is a stranger, or the fault of the first step that
-- was due and is refused, or what is sealed; it stands at the list with the steps before that, behind what the pass saw,
-- or at A, and the pass has its slot's view: one that was no stranger is none then, all is sealed or will be, or a settle
-- is what was refused, and what the pass saw was accepted
pub record Sealing (old : LogRow.Denot) (A : List Step) (p : PassRow.Denot) (new : LogRow.Denot)
    (q : PassRow.Denot) (outcome : Outcome)
    : Type 0 where
  pub told : outcome ≡ sealed_outcome (seal_reply old A p)
  pub sizes : new.core.sizes ≡ old.core.sizes
  pub standing : StandsAt new (seal_list old A p)
  pub pass : q ≡ seal_pass old A p
  pub known : is_known old A p ≡ true → KnownAt new (seal_list old A p) q
  pub leads : is_known old A p ≡ true → Leads old.core.sizes (seal_reply old A p) (seal_list old A p)
  pub entered : is_known old A p ≡ true
      → fault_of old.core.sizes A (Look p.own.slot p.own.view.read_only p.own.view.head) ≡ None

-- a pass's seal was so made at whatever list the log stood, and both handles keep what they had; where one has none,
-- nothing is changed, and the outcome says so
abbrev pub SealsBy : Option LogRow.Denot → Option PassRow.Denot → Option LogRow.Denot → Option PassRow.Denot
    → Outcome
    → Type 0
SealsBy None pass new left outcome = (outcome ≡ no_core) × (new ≡ None) × (left ≡ pass)
SealsBy (Some log) None new left outcome = (outcome ≡ no_core) × (new ≡ Some log) × (left ≡ None)
SealsBy (Some log) (Some p) new left outcome =
    (after : LogRow.Denot) × (q : PassRow.Denot) × (new ≡ Some after) × (left ≡ Some q) × IsAlike log after
    × ((A : List Step) → StandsAt log A → Sealing log A p after q outcome)
