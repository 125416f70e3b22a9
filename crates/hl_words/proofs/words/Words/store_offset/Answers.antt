use Rattle.std.proofs.Common.{sym, ap, ◌∙◌}
use Rattle.hl_words.proofs.Rows.{is_wide}
use Rattle.hl_words.proofs.words.Words.store_offset.Goals as goal

pub store_word-requires-clause-wide : goal.store_word-requires-clause-wide
store_word-requires-clause-wide g c = is_wide c.self.inside.room c.self.inside.table.shared.key _ c.self.invariant.0

pub store_word-requires-clause-there : goal.store_word-requires-clause-there
store_word-requires-clause-there g c = c.master.invariant.1 ∙ sym c.self.invariant.1

pub store_word-requires-clause-cells : goal.store_word-requires-clause-cells
store_word-requires-clause-cells g c = sym (ap (λ k. k.cells) c.self.invariant.0.key_is)
