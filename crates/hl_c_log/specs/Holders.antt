-- Who holds the oldest pending action up, as numbers.
use Rattle.std.specs.Prelude.{ℕ, Option, Some, List, length, take, slice_get}
use Rattle.hl_model.specs.declared.step.Step.{Step}
use Rattle.hl_core.specs.declared.holders.Holder.{Holder}
use Rattle.hl_core.specs.Holding.{holders, oldest}
use Rattle.hl_answers.specs.declared.outcome.Outcome.{Outcome}
use Rattle.hl_answers.specs.Outcomes.{accepted, out_of_range}

-- a slot with its epoch, the ticket that it holds up, and how many slots do
abbrev pub holder_among : ℕ → Option ℕ → Option Holder → Outcome
holder_among count (Some ticket) (Some holder) = accepted holder.slot holder.epoch ticket count
holder_among count _ _ = out_of_range

-- the one at a place of a row
abbrev pub holder_of : List Holder → Option ℕ → ℕ → Outcome
holder_of row ticket place = holder_among (length row) ticket (slice_get row place)

-- the one at a place among the slots that hold the oldest pending action up: at most 1,024 slots there are
unfoldable pub holder_told : ℕ → List Step → ℕ → Outcome
holder_told slots A place = holder_of (take 1024 (holders slots A)) (oldest A) place
