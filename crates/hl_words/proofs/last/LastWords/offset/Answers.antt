use Rattle.std.proofs.Common.{◌+◌, ap, ◌∙◌, arith}
use Rattle.std.specs.Prelude.{slice_index}
use Rattle.std.specs.Slots.{slots_items}
use Rattle.hl_words.proofs.WordAt.{read_behind}
use Rattle.hl_words.proofs.last.LastWords.offset.Goals as goal

pub returns-in-ReadOnly : goal.returns-in-ReadOnly
returns-in-ReadOnly c =
    let cells = c.self.inside.cells in
    rw c.in-ReadOnly.is (read_behind (slots_items c.self.inside.closed.words) (cells + 16) (cells + 8) c.word.result (omega arith) c.word.ensures ∙ ap (λ l. slice_index l.words (l.cells + 8)) c.self.view_is)

pub returns-in-Head : goal.returns-in-Head
returns-in-Head c =
    let cells = c.self.inside.cells in
    rw c.in-Head.is (read_behind (slots_items c.self.inside.closed.words) (cells + 17) (cells + 9) c.word-in-Head.result (omega arith) c.word-in-Head.ensures ∙ ap (λ l. slice_index l.words (l.cells + 9)) c.self.view_is)

pub returns-in-Ended : goal.returns-in-Ended
returns-in-Ended c =
    let cells = c.self.inside.cells in
    rw c.in-Ended.is (read_behind (slots_items c.self.inside.closed.words) (cells + 18) (cells + 10) c.word-in-Ended.result (omega arith) c.word-in-Ended.ensures ∙ ap (λ l. slice_index l.words (l.cells + 10)) c.self.view_is)

pub returns-in-SafeReadOnly : goal.returns-in-SafeReadOnly
returns-in-SafeReadOnly c =
    let cells = c.self.inside.cells in
    rw c.in-SafeReadOnly.is (read_behind (slots_items c.self.inside.closed.words) (cells + 19) (cells + 11) c.word-in-SafeReadOnly.result (omega arith) c.word-in-SafeReadOnly.ensures ∙ ap (λ l. slice_index l.words (l.cells + 11)) c.self.view_is)
