use Rattle.std.proofs.Common.{refl, sym, ap, ◌∙◌}
use Rattle.hl_cells.specs.Engines.{Whole}
use Rattle.hl_cells.proofs.EngineMoves.{page_words_of, page_fits}
use Rattle.hl_cells.proofs.engine.Engine.page_words.Goals as goal

pub part-requires : goal.part-requires
part-requires g c = page_fits (record { core = c.self.inside.core; words = c.self.inside.words; held = c.self.inside.held }) c.args.page c.first_cell.result c.page_size.result c.self.inside.words c.self.invariant (rw (sym c.self.view_is) at c.first_cell.ensures) (rw (sym c.self.view_is) at c.page_size.ensures) refl

pub returns : goal.returns
returns g c = λ A st. c.part.ensures ∙ page_words_of c.args.self.now A c.args.page c.first_cell.result c.page_size.result c.self.inside.words c.requires st c.first_cell.ensures c.page_size.ensures (ap (λ (z : Whole g.row.F.Denot). z.words) c.self.view_is)
