-- What a keeper keeps, and when it stands at a list of steps.
use Rattle.std.specs.Prelude.{◌≡◌, ℕ, ◌*◌, ◌^◌, ◌≤◌, List, [], ◌++◌, length}
use Rattle.hl_model.specs.declared.step.Step.{Step}
use Rattle.hl_model.specs.Sizes.{Sizes}
use Rattle.hl_model.specs.Offsets.{read_only, head}
use Rattle.hl_model.specs.Settled.{safe_read_only}
use Rattle.hl_model.specs.Bases.{Base, base_of}
use Rattle.hl_action.specs.Jobs.{KeptRecord}
use Rattle.hl_words.specs.declared.view.Extent.{Extent}
use Rattle.hl_words.specs.declared.view.OffsetWords.{OffsetWords}
use Rattle.hl_words.specs.States.{RiderState, SeedState, WordsState, new_riders}
use Rattle.hl_words.specs.Views.{newest, no_extent}
use Rattle.hl_core.specs.Standing.{State, Stands}
use Rattle.hl_keeper.specs.Stamps.{acquires_in, slot_stamps}
use Rattle.hl_keeper.specs.Stores.{stores_of}

-- the tag of a job
abbrev pub job_tag : {F : Type 0} → KeptRecord F → ℕ
job_tag kept = kept.tag

-- what a keeper keeps: a core; the base of the steps that were cut, and how many these are; the steps since,
-- and how many it may keep; each slot's stamp, the domain's own, and how many acquires were accepted; the
-- master's stores of its words, how many steps riders entered in all, and how many steps there were, and how many of
-- them cut, when the newest call was noted
pub record KeeperState (F : Type 0) : Type 0 where
  pub core : State (KeptRecord F)
  pub base : Base
  pub cut : ℕ
  pub journal : List Step
  pub limit : ℕ
  pub stamps : List ℕ
  pub stamp : ℕ
  pub acquired : ℕ
  pub offsets : OffsetWords
  pub total : ℕ
  pub called : Extent

-- how many steps there are, and how many of them are cut
abbrev pub extent_of : {F : Type 0} → KeeperState F → Extent
extent_of k = record { steps = k.total; cut = k.cut }

-- the keeper once all calls were noted
abbrev pub all_noted : {F : Type 0} → KeeperState F → KeeperState F
all_noted k = record {
  core = k.core;
  base = k.base;
  cut = k.cut;
  journal = k.journal;
  limit = k.limit;
  stamps = k.stamps;
  stamp = k.stamp;
  acquired = k.acquired;
  offsets = k.offsets;
  total = k.total;
  called = extent_of k;
}

-- how many steps a keeper counts in all, and the greatest stamp of a domain
abbrev pub steps_most : ℕ
steps_most = 2 ^ 62

-- a keeper stands at the accepted list A: its core does; A is the steps that were cut, of which its base is,
-- and then its journal; the master's stores are those of A, so the offset words were last stored as the
-- offsets of A; the total is A's length; it counts the acquires of A, and each slot has the stamp that A
-- gives it
pub record KeeperStands {F : Type 0} (keeper : KeeperState F) (A : List Step) : Type 0 where
  pub core_stands : Stands job_tag keeper.core A
  pub steps_cut : List Step
  pub history : A ≡ steps_cut ++ keeper.journal
  pub base_is : keeper.base ≡ base_of keeper.core.sizes steps_cut
  pub cut_is : keeper.cut ≡ length steps_cut
  pub stores_are : keeper.offsets ≡ stores_of A
  pub read_only_is : newest keeper.offsets.read_only ≡ read_only A
  pub head_is : newest keeper.offsets.head ≡ head A
  pub safe_read_only_is : newest keeper.offsets.safe_read_only ≡ safe_read_only A
  pub total_is : keeper.total ≡ length A
  pub total_most : keeper.total ≤ steps_most
  pub journal_most : length keeper.journal ≤ keeper.limit
  pub acquired_is : keeper.acquired ≡ acquires_in A
  pub stamps_are : keeper.stamps ≡ slot_stamps keeper.core.sizes.slots keeper.stamp A
  pub stamp_most : keeper.stamp ≤ steps_most

-- a keeper stands at some list
abbrev pub IsKeeper : {F : Type 0} → KeeperState F → Type 0
IsKeeper {F} keeper = (A : List Step) × KeeperStands keeper A

-- so does each keeper; its sizes and its stamp are those that its realm names
pub record IsOf {F : Type 0} (sizes : Sizes) (stamp : ℕ) (keeper : KeeperState F) : Type 0 where
  pub standing : IsKeeper keeper
  pub sizes_are : keeper.core.sizes ≡ sizes
  pub stamp_is : keeper.stamp ≡ stamp

-- each keeper is that, and its row of stamps, which has this room, never grew
pub record IsKept {F : Type 0} (sizes : Sizes) (stamp : ℕ) (keeper : KeeperState F)
    (room : ℕ) : Type 0 where
  pub of : IsOf sizes stamp keeper
  pub exact : room ≡ keeper.core.sizes.slots

-- a keeper at the empty list, with room for so many steps and with this stamp, its words and its riders, as a seed
-- makes them
pub record IsOpened {F : Type 0} (seed : SeedState) (room own : ℕ)
    (k : KeeperState F) (w : WordsState) (rs : List RiderState) : Type 0 where
  pub keeper : KeeperStands k []
  pub sizes : k.core.sizes ≡ seed.sizes
  pub limit : k.limit ≡ room
  pub stamp : (k.stamp ≡ own) × (k.acquired ≡ 0)
  pub called : k.called ≡ no_extent
  pub words : w ≡ record { cells = seed.sizes.frames * seed.sizes.page_size; riders = seed.riders }
  pub riders : rs ≡ new_riders seed.riders
