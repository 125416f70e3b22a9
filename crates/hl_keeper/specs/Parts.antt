-- What contracts see of a keeper and of a pass, by their parts.
use Rattle.std.specs.Prelude.{List}
use Rattle.hl_model.specs.declared.step.Step.{Step}
use Rattle.hl_action.specs.Jobs.{KeptRecord}
use Rattle.hl_words.specs.States.{MasterState, RiderState}
use Rattle.hl_core.specs.Standing.{State}
use Rattle.hl_pass.specs.declared.pass_view.PassView.{PassView}
use Rattle.hl_pass.specs.declared.stamps.Stamps.{Stamps}
use Rattle.hl_keeper.specs.Journals.{JournalState}
use Rattle.hl_keeper.specs.Keepers.{KeeperState}
use Rattle.hl_keeper.specs.Passes.{PassRecord}

-- the keeper of a core, a journal, stamps and a master
abbrev pub keeper_of : {F : Type 0} → State (KeptRecord F) → JournalState → Stamps → MasterState
    → KeeperState F
keeper_of core journal stamps master = record {
  core = core;
  base = journal.base;
  cut = journal.cut;
  journal = journal.steps;
  limit = journal.limit;
  stamps = stamps.row.items;
  stamp = stamps.own;
  acquired = stamps.given;
  offsets = master.offsets;
  total = master.total;
  called = master.called;
}

-- the pass of what it keeps of its slot, of its touches and of its rider
abbrev pub pass_of : PassView → List Step → RiderState → PassRecord
pass_of own touches rider = record {
  slot = own.slot;
  stamp = own.stamp;
  epoch = own.epoch;
  held = own.held;
  touches = touches;
  rider = rider;
}
