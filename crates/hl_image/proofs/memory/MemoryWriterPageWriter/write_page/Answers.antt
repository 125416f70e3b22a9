use Rattle.std.proofs.Common.{rules, sym}
use Rattle.std.proofs.lemmas.List.{map-set}
use Rattle.hl_image.specs.Pages.{Place}
use Rattle.hl_image.proofs.Keeping.{stored_there, others_stay}
use Rattle.hl_image.proofs.memory.MemoryWriterPageWriter.write_page.Goals as goal

pub returns-clause-ok : goal.returns-clause-ok
returns-clause-ok c = record {
  accepted = sym c.if-is_refused.ensures;
  changed = search (rules, map-set (λ (place : Place). place.image) c.self.inside.rows.items c.args.page c.store.new.self);
}

pub invariant_of-self : goal.invariant_of-self
invariant_of-self c = search rules

pub invariant_of-self-2 : goal.invariant_of-self-2
invariant_of-self-2 c = search rules

pub returns-clause-has : goal.returns-clause-has
returns-clause-has c = stored_there _ _ _ _ (returns-clause-ok c)

pub returns-clause-others : goal.returns-clause-others
returns-clause-others c = others_stay _ _ _ _ (returns-clause-ok c)
