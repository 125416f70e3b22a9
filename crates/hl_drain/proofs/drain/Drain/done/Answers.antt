use Rattle.std.proofs.Common.{sym, ◌∙◌}
use Rattle.hl_drain.proofs.DrainLaws.{IsDrain-done}
use Rattle.hl_drain.proofs.Places.{done_missing, done_found}
use Rattle.hl_drain.proofs.drain.Drain.done.Goals as goal

pub returns-in_default-clause-answer : goal.returns-in_default-clause-answer
returns-in_default-clause-answer g c = sym (done_missing _ _ c.place_of.ensures.valid c.in_default.ensures.place).0

pub returns-in_default-clause-lists : goal.returns-in_default-clause-lists
returns-in_default-clause-lists g c = sym (done_missing _ _ c.place_of.ensures.valid c.in_default.ensures.place).1

pub invariant_of-self : goal.invariant_of-self
invariant_of-self g c =
    let at = done_found _ _ _ _ _ c.self.view_is c.self.invariant.lists c.in-Some.ensures.place c.remove.ensures.value in
    record {
      lists = rw (c.remove.ensures.others, ← at.1) (IsDrain-done c.args.self.now c.args.ticket c.place_of.ensures.valid);
      places_pending = c.self.invariant.places_pending;
      places_taken = c.remove.ensures.places ∙ c.self.invariant.places_taken;
      turns = c.self.invariant.turns;
    }

pub returns-clause-answer : goal.returns-clause-answer
returns-clause-answer g c =
    sym (done_found _ _ _ _ _ c.self.view_is c.self.invariant.lists c.in-Some.ensures.place c.remove.ensures.value).0

pub returns-clause-lists : goal.returns-clause-lists
returns-clause-lists g c =
    rw (c.remove.ensures.others) (sym (done_found _ _ _ _ _ c.self.view_is c.self.invariant.lists c.in-Some.ensures.place c.remove.ensures.value).1)

pub returns-clause-valid : goal.returns-clause-valid
returns-clause-valid g c = (invariant_of-self g c).lists
