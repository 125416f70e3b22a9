-- What bounds the quantities of a base and the steps since, so that code can hold them.
use Rattle.std.specs.Prelude.{◌^◌, ◌<◌, ◌≤◌, List, length}
use Rattle.hl_model.specs.declared.step.Step.{Step}
use Rattle.hl_model.specs.Bases.{Base}
use Rattle.hl_model.specs.AfterOffsets.{tail_after}
use Rattle.hl_model.specs.AfterActions.{waiting_after, taken_after}
use Rattle.hl_model.specs.AfterPages.{flushed_after}

-- pages have words, and the tail is an address or one past the last
pub record TailFits (b : Base) (L : List Step) : Type 0 where
  pub page_size_least : 0 < b.sizes.page_size
  pub tail_most : tail_after b L ≤ 2 ^ 48

-- the epoch is one that there may be, the offsets are within the space, the flushed one hasn't fallen since
-- the base, and the drain list holds its actions
pub record AreBounded (b : Base) (L : List Step) : Type 0 where
  pub epoch_most : b.epoch ≤ 2 ^ 62
  pub tail : TailFits b L
  pub flushed_least : b.six.flushed ≤ flushed_after b L
  pub flushed_most : flushed_after b L ≤ 2 ^ 48
  pub waiting_most : length (waiting_after b L) ≤ 64
  pub taken_most : length (taken_after b L) ≤ 64
