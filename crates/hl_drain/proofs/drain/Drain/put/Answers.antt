use Rattle.std.proofs.Common.{rules, ◌<◌, [], ◌∷◌, ◌++◌, length, arith, subst, sym}
use Rattle.hl_drain.specs.Lists.{IsDrain, count_of}
use Rattle.hl_drain.proofs.DrainLaws.{IsDrain-put}
use Rattle.hl_drain.proofs.Places.{ok_of}
use Rattle.hl_drain.proofs.drain.Drain.put.Goals as goal

pub invariant_of-self : goal.invariant_of-self
invariant_of-self g c =
    let room : count_of c.args.self.now < c.args.self.now.limit = search rules in
    let within = subst (λ lists. count_of lists < lists.limit) (sym c.self.view_is) room in
    let free : length c.self.inside.pending.ring.items < c.self.inside.pending.ring.capacity = omega arith in
    let row = ok_of c.push.result _ (c.push.ensures.room.1 free) c.push.ensures.ok in
    let stored = IsDrain-put c.args.self.now c.args.ticket c.args.action c.has_room.ensures.valid room c.requires in
    record {
      lists = rw row
          (subst (λ lists. IsDrain (record lists { pending = lists.pending ++ (c.args.ticket, c.args.action) ∷ [] })) (sym c.self.view_is) stored);
      places_pending = rw row c.self.invariant.places_pending;
      places_taken = c.self.invariant.places_taken;
      turns = c.self.invariant.turns;
    }

pub returns-clause-valid : goal.returns-clause-valid
returns-clause-valid g c = (invariant_of-self g c).lists

pub returns-clause-answer : goal.returns-clause-answer
returns-clause-answer g c = search rules

pub returns-clause-lists : goal.returns-clause-lists
returns-clause-lists g c = search rules
