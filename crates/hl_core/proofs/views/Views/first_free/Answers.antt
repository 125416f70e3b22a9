use Rattle.std.proofs.Common.{rules, tests, sym, ◌∙◌}
use Rattle.std.specs.Prelude.{is_none}
use Rattle.std.proofs.lemmas.Iterator.{YieldsList-from_slice}
use Rattle.std.proofs.lemmas.Iterator.Search.{position_from_yields_List}
use Rattle.hl_core.proofs.ViewRows.{position-map}
use Rattle.hl_core.proofs.views.Views.first_free.Goals as goal

pub returns : goal.returns
returns c =
    rw (sym c.self.view_is)
    (position_from_yields_List (λ r. is_none r.view) _ _ c.position.result c.position.ensures.ran (YieldsList-from_slice c.self.inside.rows.items (c.iter.ensures.rest ∙ c.deref.ensures.value)) (λ x b q k. search (rules, tests))
    ∙ sym (position-map (λ r. r.view) is_none c.self.inside.rows.items))
