use Rattle.std.proofs.Common.{◌≡◌, take}
use Rattle.hl_drain.proofs.drain.Drain.taken.Given as goal

abbrev pub invariant-loop-waiting : goal.invariant-loop-waiting
invariant-loop-waiting g l = l.row.items ≡ take l.waiting-index l.waiting-items
