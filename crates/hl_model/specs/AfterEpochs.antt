-- Epochs of a base and the steps since. Where a step before these would be looked for, the base tells it.
use Rattle.std.specs.Prelude.{ℕ, ◌+◌, Bool, ◌||◌, List, count_by}
use Rattle.std.specs.List.{list_any}
use Rattle.hl_model.specs.declared.step.Step.{Step}
use Rattle.hl_model.specs.Epochs.{is_bump, enters, leaves}
use Rattle.hl_model.specs.Bases.{Base}

-- the current epoch: the base's, and one more for each bump
unfoldable pub epoch_after : Base → List Step → ℕ
epoch_after b L = b.epoch + count_by is_bump L

-- slot t was acquired, refreshed or released in the steps: the last such step is among them, and not before
-- the base
unfoldable pub has_moved : ℕ → List Step → Bool
has_moved t L = list_any (λ s. enters t s || leaves t s) L
