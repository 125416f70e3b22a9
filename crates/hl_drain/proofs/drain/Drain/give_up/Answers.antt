use Rattle.std.proofs.Common.{rules, refl}
use Rattle.hl_drain.specs.Rows.{lists_of}
use Rattle.hl_drain.proofs.DrainLaws.{IsDrain-give_up}
use Rattle.hl_drain.proofs.drain.Drain.give_up.Goals as goal

pub invariant_of-self : goal.invariant_of-self
invariant_of-self g c =
    record {
      lists = rw c.pop.ensures.rest (IsDrain-give_up (lists_of c.self.inside) c.self.inside.pending.ring.items refl c.self.invariant.lists);
      places_pending = rw c.pop.ensures.rest c.self.invariant.places_pending;
      places_taken = c.self.invariant.places_taken;
      turns = c.self.invariant.turns;
    }

pub returns-clause-valid : goal.returns-clause-valid
returns-clause-valid g c = (invariant_of-self g c).lists

pub returns-clause-answer : goal.returns-clause-answer
returns-clause-answer g c = search rules

pub returns-clause-lists : goal.returns-clause-lists
returns-clause-lists g c = search rules
