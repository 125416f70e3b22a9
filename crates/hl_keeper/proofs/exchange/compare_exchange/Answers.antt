use Rattle.std.proofs.Common.{ℕ, Bool, ap, ◌∙◌}
use Rattle.std.specs.Prelude.{if◌then◌else◌}
use Rattle.std.proofs.lemmas.Bool.{eq-eqb, ne_eqb}
use Rattle.hl_words.specs.Views.{changed, loaded}
use Rattle.hl_words.specs.States.{RiderState, with_view}
use Rattle.hl_keeper.proofs.PassLaws.{change_is, load_is, store_touches}
use Rattle.hl_keeper.proofs.exchange.compare_exchange.Goals as goal

-- the rider's view is one with a store, or without, as the cell held the old value or not
abbrev swapped : RiderState → ℕ → ℕ → ℕ → Bool → RiderState
swapped r cell new found same = with_view (if same then changed cell found new r.view else loaded cell found r.view) r

pub returns-then-found-old-clause-pass : goal.returns-then-found-old-clause-pass
returns-then-found-old-clause-pass g c =
    let found = c.compare_exchange_cell-found.result in
    let other = ap (swapped c.pass.inside.rider c.cell_of-cell.result c.args.new found) (ne_eqb found c.args.old c.if-found-old.true) in
    load_is c.args.params c.args.a found _ c.args.pass.now c.cell_of-cell.result c.compare_exchange_cell-found.new.rider c.pass.view_is c.cell_of-cell.ensures.value (c.compare_exchange_cell-found.ensures ∙ other)

pub invariant_of-pass-2 : goal.invariant_of-pass-2
invariant_of-pass-2 g c = store_touches _ c.args.pass.now c.pass.inside.own.view c.args.a c.args.new c.push.new.self c.in_ok-may_store.field-0 c.pass.view_is c.in_ok-may_store.ensures.answer c.pass.invariant.0 c.pass.invariant.1 c.push.ensures

pub returns-clause-pass : goal.returns-clause-pass
returns-clause-pass g c =
    let found = c.compare_exchange_cell-found.result in
    let same = ap (swapped c.pass.inside.rider c.cell_of-cell.result c.args.new found) (eq-eqb found c.args.old c.if-found-old.false) in
    change_is c.args.params c.args.a found c.args.new _ c.args.pass.now c.cell_of-cell.result c.compare_exchange_cell-found.new.rider c.push.new.self c.pass.view_is c.cell_of-cell.ensures.value (c.compare_exchange_cell-found.ensures ∙ same) c.push.ensures
