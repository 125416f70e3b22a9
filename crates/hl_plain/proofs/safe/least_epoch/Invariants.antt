use Rattle.std.proofs.Common.{◌≡◌, ℕ, take}
use Rattle.std.specs.Prelude.{unwrap_or}
use Rattle.hl_model.specs.Lists.{least_or}
use Rattle.hl_plain.specs.Presents.{epochs_in}
use Rattle.hl_plain.proofs.safe.least_epoch.Given as goal

abbrev pub invariant-loop-t : goal.invariant-loop-t
invariant-loop-t l = (d : ℕ) → unwrap_or l.least d ≡ least_or d (epochs_in (take l.t l.present.slots))
