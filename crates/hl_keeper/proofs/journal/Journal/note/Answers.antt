use Rattle.std.proofs.Common.{length, sym, ap, ◌∙◌, arith}
use Rattle.std.proofs.lemmas.List.{length_push}
use Rattle.hl_keeper.proofs.JournalLaws.{full-none}
use Rattle.hl_keeper.proofs.journal.Journal.note.Goals as goal

pub push_reserved-requires : goal.push_reserved-requires
push_reserved-requires c =
    let fine = rw (sym c.self.view_is) at c.requires in
    omega (arith, (full-none _ 1 fine).0, c.self.invariant.exact, c.self.inside.steps.ok.0)

pub invariant_of-self : goal.invariant_of-self
invariant_of-self c =
    let fine = rw (sym c.self.view_is) at c.requires in
    record {
      exact = c.push_reserved.ensures.capacity ∙ c.self.invariant.exact;
      counted = omega (arith, (full-none _ 1 fine).1, ap length c.push_reserved.ensures.items, length_push c.self.inside.steps.items c.args.step);
    }
