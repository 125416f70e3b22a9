use Rattle.std.proofs.Common.{◌≡◌, map, take}
use Rattle.hl_drain.specs.Actions.{waiting_of}
use Rattle.hl_drain.proofs.drain.Drain.pending.Given as goal

abbrev pub invariant-loop-n : goal.invariant-loop-n
invariant-loop-n g l =
    l.row.items ≡ take l.n (map (waiting_of g.J.Tagged.tag) l.fn.self.pending)
