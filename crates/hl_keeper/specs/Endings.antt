-- What is left of a domain at its end.
use Rattle.std.specs.Prelude.{◌≡◌, ℕ, List, length, map}
use Rattle.std.specs.List.{sum_by}
use Rattle.hl_model.specs.declared.snapshot.Snapshot.{Snapshot}
use Rattle.hl_model.specs.declared.step.Step.{Step}
use Rattle.hl_model.specs.Bases.{Base}
use Rattle.hl_model.specs.Snapshots.{snapshot_of}
use Rattle.hl_drain.specs.Lists.{Lists}
use Rattle.hl_action.specs.Jobs.{KeptRecord}
use Rattle.hl_words.specs.Rule.{IsRuledAt}
use Rattle.hl_words.specs.States.{LastState, RiderState, WordsState}
use Rattle.hl_keeper.specs.Keepers.{KeeperState, KeeperStands}

-- what is left of a domain at its end: the base of the steps that were cut, and how many these are; the steps
-- since; the actions that were never taken, and those taken and not done; all quantities; what the words hold
pub record EndingState (F : Type 0) : Type 0 where
  pub base : Base
  pub cut : ℕ
  pub journal : List Step
  pub left : Lists (KeptRecord F)
  pub snapshot : Snapshot
  pub words : LastState

-- what is left of a keeper, of its words and of its riders, all of which are there
pub record IsLeftOf {F : Type 0} (k : KeeperState F) (w : WordsState) (rs : List RiderState)
    (ending : EndingState F) : Type 0 where
  pub kept : (ending.base ≡ k.base) × (ending.cut ≡ k.cut) × (ending.journal ≡ k.journal)
      × (ending.left ≡ k.core.drain)
  pub quantities : (A : List Step) → KeeperStands k A → ending.snapshot ≡ snapshot_of k.core.sizes A
  pub sum : k.total ≡ sum_by (λ r. r.share) rs
  pub words : IsRuledAt w.cells ending.words.words k.offsets k.called (map (λ r. r.view) rs)
  pub cells : ending.words.cells ≡ w.cells
  pub all : length rs ≡ w.riders
