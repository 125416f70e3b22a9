use Rattle.std.proofs.Common.{◌≡◌, take, is_some}
use Rattle.std.specs.List.{count_by}
use Rattle.hl_plain.proofs.snapshots.protected.Given as goal

abbrev pub invariant-loop-t : goal.invariant-loop-t
invariant-loop-t l = l.count ≡ count_by is_some (take l.t l.present.slots)
