use Rattle.std.proofs.Common.{rules, refl, sym, arith}
use Rattle.std.specs.Prelude.{Ok}
use Rattle.hl_model.specs.declared.step.Reply.TheVariants.{Written}
use Rattle.hl_model.specs.declared.step.Step.TheVariants.{Write as WRITE}
use Rattle.std.proofs.lemmas.Result.{err_from_is_err_and}
use Rattle.hl_cells.proofs.EngineMoves.{moved_err, moved_write, words_length, stands_after}
use Rattle.hl_cells.proofs.JobLaws.{rows_stay}
use Rattle.hl_cells.proofs.engine.Engine.write.Goals as goal

pub returns-in_err-may_write-clause-result : goal.returns-in_err-may_write-clause-result
returns-in_err-may_write-clause-result g c =
    let p = err_from_is_err_and c.from_residual.result c.from_residual.ensures.1 in
    rw (p.1, p.2, sym c.self.view_is) (λ A st. c.in_err-may_write.ensures.fault A c.args.v st.core_stands)

pub returns-in_err-may_write-clause-standing : goal.returns-in_err-may_write-clause-standing
returns-in_err-may_write-clause-standing g c =
    rw (sym c.self.view_is) (λ A st. (moved_err g.P.Promise.keeps (record { core = c.self.inside.core; words = c.self.inside.words; held = c.self.inside.held }) A (WRITE c.args.t c.args.a c.args.v) c.self.inside.core c.in_err-may_write.field-0.0 st (c.in_err-may_write.ensures.made c.args.v A st.core_stands)).standing)

pub set-requires : goal.set-requires
set-requires g c = omega (arith, rw (sym c.self.view_is) at c.cell_of-cell.ensures.in_range, words_length (record { core = c.self.inside.core; words = c.self.inside.words; held = c.self.inside.held }) c.self.invariant)

pub invariant_of-self : goal.invariant_of-self
invariant_of-self g c =
    rw c.set.ensures (stands_after g.P.Promise.keeps (record { core = c.self.inside.core; words = c.self.inside.words; held = c.self.inside.held }) _ (WRITE c.args.t c.args.a c.args.v) (Ok Written) c.self.invariant
    (λ A st. moved_write g.P.Promise.keeps (record { core = c.self.inside.core; words = c.self.inside.words; held = c.self.inside.held }) A c.args.t c.args.a c.args.v c.cell_of-cell.result c.self.inside.core Written st (c.in_ok-may_write.ensures.made c.args.v A st.core_stands) (rw (sym c.self.view_is) at c.cell_of-cell.ensures.value)))

pub returns-clause-result : goal.returns-clause-result
returns-clause-result g c = rw (sym c.self.view_is) (λ A st. c.in_ok-may_write.ensures.fault A c.args.v st.core_stands)

pub returns-clause-standing : goal.returns-clause-standing
returns-clause-standing g c =
    rw (c.set.ensures, sym c.self.view_is)
    (λ A st. (moved_write g.P.Promise.keeps (record { core = c.self.inside.core; words = c.self.inside.words; held = c.self.inside.held }) A c.args.t c.args.a c.args.v c.cell_of-cell.result c.self.inside.core Written st (c.in_ok-may_write.ensures.made c.args.v A st.core_stands) (rw (sym c.self.view_is) at c.cell_of-cell.ensures.value)).standing)

pub returns-clause-jobs : goal.returns-clause-jobs
returns-clause-jobs g c = rw (sym c.self.view_is) (rows_stay (record { core = c.self.inside.core; words = c.self.inside.words; held = c.self.inside.held }) _ refl refl)

pub returns-in_err-may_write-clause-jobs : goal.returns-in_err-may_write-clause-jobs
returns-in_err-may_write-clause-jobs g c = search rules

pub returns-in_err-may_write-clause-refused : goal.returns-in_err-may_write-clause-refused
returns-in_err-may_write-clause-refused g c = search rules
