use Rattle.std.proofs.Common.{rules, tests, ◌≡◌, unwrap_or, ap, ◌∙◌, sym}
use Rattle.std.proofs.lemmas.Iterator.{YieldsList-from_slice}
use Rattle.std.proofs.lemmas.Iterator.Adapters.{option_map_id}
use Rattle.std.proofs.lemmas.Iterator.Consumers.{YieldsList-from_filter_map, min_from_yields_List}
use Rattle.hl_model.specs.Lists.{least_or}
use Rattle.hl_epoch.proofs.Least.{protected, least_or-reduce}
use Rattle.hl_epoch.proofs.Tables.{safe_of-next}
use Rattle.hl_epoch.proofs.scan.ScanTable.least.Goals as goal

pub returns-clause-value : goal.returns-clause-value
returns-clause-value c =
    let inside = c.self.inside in
    let min_is = min_from_yields_List {v = λ x. x} c.filter_map-epochs.result c.min.result c.min.ensures.ran (YieldsList-from_filter_map _ (λ epoch. epoch) (YieldsList-from_slice inside.epochs.items cc) c.filter_map-epochs.ensures.closure (λ x r q k. search (rules, tests))) in
    let least : unwrap_or c.min.result inside.current ≡ least_or inside.current (protected inside.epochs.items) =
    ap (λ o. unwrap_or o inside.current) (sym (option_map_id c.min.result) ∙ min_is) ∙ least_or-reduce inside.current (protected inside.epochs.items) in
    rw (← c.self.view_is) (c.unwrap_or.ensures ∙ least ∙ sym (safe_of-next _ c.self.invariant.0))
