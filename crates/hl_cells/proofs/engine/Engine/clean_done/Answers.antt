use Rattle.std.proofs.Common.{refl, sym}
use Rattle.std.specs.Prelude.{Ok}
use Rattle.hl_model.specs.declared.step.Reply.TheVariants.{Freed}
use Rattle.hl_model.specs.declared.step.Step.TheVariants.{CleanDone as CLEAN_DONE}
use Rattle.std.proofs.lemmas.Result.{err_from_is_err_and}
use Rattle.hl_cells.proofs.EngineMoves.{moved_err, moved_zeroed, page_fits, stands_after}
use Rattle.hl_cells.proofs.JobLaws.{rows_stay}
use Rattle.hl_cells.proofs.engine.Engine.clean_done.Goals as goal

pub returns-in_err-freed-clause-moved : goal.returns-in_err-freed-clause-moved
returns-in_err-freed-clause-moved g c =
    let p = err_from_is_err_and c.from_residual.result c.from_residual.ensures.1 in
    rw (p.1, p.2, sym c.self.view_is) (λ A st. moved_err g.P.Promise.keeps (record { core = c.self.inside.core; words = c.self.inside.words; held = c.self.inside.held }) A (CLEAN_DONE c.args.page) c.clean_done.new.self c.in_err-freed.field-0.0 st (c.in_err-freed.ensures.made A st.core_stands))

pub zero-requires : goal.zero-requires
zero-requires g c = page_fits (record { core = c.self.inside.core; words = c.self.inside.words; held = c.self.inside.held }) c.args.page c.first_cell-start.result c.page_size-len.result c.self.inside.words c.self.invariant (rw (sym c.self.view_is) at c.first_cell-start.ensures) (rw (sym c.self.view_is) at c.page_size-len.ensures) refl

pub invariant_of-self-2 : goal.invariant_of-self-2
invariant_of-self-2 g c =
    stands_after g.P.Promise.keeps (record { core = c.self.inside.core; words = c.self.inside.words; held = c.self.inside.held }) _ (CLEAN_DONE c.args.page) (Ok (Freed c.in_ok-freed.freed)) c.self.invariant
    (λ A st. moved_zeroed g.P.Promise.keeps (record { core = c.self.inside.core; words = c.self.inside.words; held = c.self.inside.held }) A c.args.page c.first_cell-start.result c.page_size-len.result c.clean_done.new.self c.self.inside.words c.zero.new.self (Freed c.in_ok-freed.freed) st (c.in_ok-freed.ensures.made A st.core_stands) (rw (sym c.self.view_is) at c.first_cell-start.ensures) (rw (sym c.self.view_is) at c.page_size-len.ensures) refl c.zero.ensures)

pub returns-clause-moved : goal.returns-clause-moved
returns-clause-moved g c =
    rw (sym c.self.view_is)
    (λ A st. moved_zeroed g.P.Promise.keeps (record { core = c.self.inside.core; words = c.self.inside.words; held = c.self.inside.held }) A c.args.page c.first_cell-start.result c.page_size-len.result c.clean_done.new.self c.self.inside.words c.zero.new.self (Freed c.in_ok-freed.freed) st (c.in_ok-freed.ensures.made A st.core_stands) (rw (sym c.self.view_is) at c.first_cell-start.ensures) (rw (sym c.self.view_is) at c.page_size-len.ensures) refl c.zero.ensures)

pub returns-clause-jobs : goal.returns-clause-jobs
returns-clause-jobs g c = rw (sym c.self.view_is) (rows_stay (record { core = c.self.inside.core; words = c.self.inside.words; held = c.self.inside.held }) _ refl c.in_ok-freed.ensures.jobs)
