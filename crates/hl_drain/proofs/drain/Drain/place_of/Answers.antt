use Rattle.std.proofs.Common.{map}
use Rattle.hl_drain.specs.Taken.{tickets_of}
use Rattle.hl_drain.proofs.Rising.{rises_front}
use Rattle.hl_drain.proofs.drain.Drain.place_of.Goals as goal

pub place_of-requires : goal.place_of-requires
place_of-requires g c = record {
  rising = rises_front (tickets_of c.self.inside.taken.items) (map (λ entry. entry.0) c.self.inside.pending.ring.items) c.self.invariant.lists.rising;
}
