use Rattle.std.proofs.Common.{sym, arith}
use Rattle.std.proofs.lemmas.Result.{err_from_is_err_and}
use Rattle.hl_cells.proofs.EngineMoves.{words_length, found_word, found_fault}
use Rattle.hl_cells.proofs.engine.Engine.read.Goals as goal

pub word-requires : goal.word-requires
word-requires g c = omega (arith, rw (sym c.self.view_is) at c.cell_of-cell.ensures.in_range, words_length (record { core = c.self.inside.core; words = c.self.inside.words; held = c.self.inside.held }) c.self.invariant)

pub returns-clause-value : goal.returns-clause-value
returns-clause-value g c =
    rw (sym c.self.view_is)
    (λ A st. found_word (record { core = c.self.inside.core; words = c.self.inside.words; held = c.self.inside.held }) A c.args.t c.args.a c.word.result c.cell_of-cell.result 0 st (c.in_ok-may_read.ensures.fault A st.core_stands) (rw (sym c.self.view_is) at c.cell_of-cell.ensures.value) (rw (sym c.self.view_is) at c.cell_of-cell.ensures.in_range) c.word.ensures)

pub returns-in_err-may_read-clause-value : goal.returns-in_err-may_read-clause-value
returns-in_err-may_read-clause-value g c =
    let p = err_from_is_err_and c.from_residual.result c.from_residual.ensures.1 in
    rw (p.1, p.2, sym c.self.view_is) (λ A st. found_fault (record { core = c.self.inside.core; words = c.self.inside.words; held = c.self.inside.held }) A c.args.t c.args.a c.in_err-may_read.field-0.0 (c.in_err-may_read.ensures.fault A st.core_stands))
