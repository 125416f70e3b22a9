-- A keeper's journal: the steps since the last cut, and the base of those that were cut.
use Rattle.std.specs.Prelude.{◌≡◌, ℕ, ◌+◌, ◌≤◌, nat_lt, ◌||◌, if◌then◌else◌, Option, Some, None, List, ◌++◌, length}
use Rattle.hl_model.specs.declared.fault.Fault.{Fault}
use Rattle.hl_model.specs.declared.fault.Fault.TheVariants.{JournalFull}
use Rattle.hl_model.specs.declared.step.Step.{Step}
use Rattle.hl_model.specs.Bases.{Base}
use Rattle.hl_keeper.specs.Keepers.{KeeperState, steps_most}

-- the base of the steps that were cut, and how many these are; the steps since, and how many it may keep
pub record JournalState : Type 0 where
  pub base : Base
  pub cut : ℕ
  pub steps : List Step
  pub limit : ℕ

-- it has room for exactly as many steps as it may keep, and those cut and kept aren't too many to be counted
pub record IsJournal (journal : JournalState) (room : ℕ) : Type 0 where
  pub exact : room ≡ journal.limit
  pub counted : journal.cut + length journal.steps ≤ steps_most

-- the fault of n steps more: they don't fit, or would be more in all than a keeper counts
unfoldable pub full_fault : JournalState → ℕ → Option Fault
full_fault journal n =
    if nat_lt journal.limit (length journal.steps + n)
    || nat_lt steps_most (journal.cut + length journal.steps + n)
    then Some JournalFull
    else None

-- the journal with these steps behind its own
abbrev pub with_steps : List Step → JournalState → JournalState
with_steps steps journal = record {
  base = journal.base;
  cut = journal.cut;
  steps = journal.steps ++ steps;
  limit = journal.limit;
}

-- a keeper's journal
abbrev pub journal_of : {F : Type 0} → KeeperState F → JournalState
journal_of keeper =
    record { base = keeper.base; cut = keeper.cut; steps = keeper.journal; limit = keeper.limit }
