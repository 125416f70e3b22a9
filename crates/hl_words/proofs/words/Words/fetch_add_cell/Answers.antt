use Rattle.std.proofs.Common.{rules, sym, ap, ◌∙◌, arith}
use Rattle.hl_words.proofs.Rows.{can_step}
use Rattle.hl_words.proofs.words.Words.fetch_add_cell.Goals as goal

pub returns : goal.returns
returns g c = search rules

pub add_cell-requires-clause-can : goal.add_cell-requires-clause-can
add_cell-requires-clause-can g c =
    let t = c.self.invariant in
    let r = c.rider.invariant in
    can_step c.self.inside.room c.self.inside.table.shared.key _ _ _ t.0 (r.1 ∙ sym t.1) r.0

pub add_cell-requires-clause-cell : goal.add_cell-requires-clause-cell
add_cell-requires-clause-cell g c = omega (arith, c.requires, ap (λ w. w.cells) c.self.view_is, ap (λ k. k.cells) c.self.invariant.0.key_is)
