use Rattle.std.proofs.Common.{sym, ap, ◌∙◌}
use Rattle.hl_words.proofs.Rows.{can_step}
use Rattle.hl_words.proofs.words.Words.load_offset.Goals as goal

pub load_word-requires-clause-can : goal.load_word-requires-clause-can
load_word-requires-clause-can g c =
    let t = c.self.invariant in
    let r = c.rider.invariant in
    can_step c.self.inside.room c.self.inside.table.shared.key _ _ _ t.0 (r.1 ∙ sym t.1) r.0

pub load_word-requires-clause-cells : goal.load_word-requires-clause-cells
load_word-requires-clause-cells g c = sym (ap (λ k. k.cells) c.self.invariant.0.key_is)
