use Rattle.std.proofs.Common.{◌+◌, refl, ap, ◌∙◌}
use Rattle.std.specs.Prelude.{slice_index}
use Rattle.hl_words.proofs.WordAt.{read_behind}
use Rattle.hl_words.proofs.last.LastWords.cell.Goals as goal

pub returns : goal.returns
returns c = read_behind _ (8 + c.args.cell) c.args.cell c.word.result refl c.word.ensures ∙ ap (λ l. slice_index l.words c.args.cell) c.self.view_is
