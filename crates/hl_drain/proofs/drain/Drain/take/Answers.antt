use Rattle.std.proofs.Common.{rules, ℕ, ◌∙◌, sym, arith, drop}
use Rattle.hl_drain.specs.declared.action.Action.{Action}
use Rattle.hl_drain.specs.Rows.{lists_of}
use Rattle.hl_drain.proofs.DrainLaws.{IsDrain-take}
use Rattle.hl_drain.proofs.Places.{split_front}
use Rattle.hl_drain.proofs.drain.Drain.take.Goals as goal

pub invariant_of-self-2 : goal.invariant_of-self-2
invariant_of-self-2 g c =
    let oldest : ℕ × Action g.row.J.Denot = (c.in_ok-ticket.ticket, c.in_ok-ticket.action) in
    let front = split_front c.self.inside.pending.ring.items oldest _ _ (sym c.ok_or-2.ensures.value ∙ c.in_ok-ticket.was) c.pop.ensures.value in
    record {
      lists = rw (c.pop.ensures.rest, c.push.ensures.items, c.waiting.ensures)
          (IsDrain-take g.J.Tagged.tag (lists_of c.self.inside) oldest (drop 1 c.self.inside.pending.ring.items) c.pop.new.visits front c.self.invariant.lists);
      places_pending = rw c.pop.ensures.rest c.self.invariant.places_pending;
      places_taken = c.push.ensures.places ∙ c.self.invariant.places_taken;
      turns = omega arith;
    }

pub returns-clause-valid : goal.returns-clause-valid
returns-clause-valid g c = (invariant_of-self-2 g c).lists

pub returns-clause-answer : goal.returns-clause-answer
returns-clause-answer g c = search rules

pub invariant_of-self : goal.invariant_of-self
invariant_of-self g c = search rules
