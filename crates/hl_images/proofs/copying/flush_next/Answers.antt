use Rattle.std.proofs.Common.{◌++◌, [], ◌∷◌, true, refl, ap, sym, subst}
use Rattle.std.specs.Prelude.{Ok, Err, Some}
use Rattle.hl_model.specs.declared.step.Step.TheVariants.{FlushDone}
use Rattle.hl_model.specs.Pages.{flushed}
use Rattle.hl_words.specs.States.{RiderState}
use Rattle.hl_keeper.specs.declared.load.PageJob.{PageJob}
use Rattle.hl_keeper.specs.Calls.{Ends}
use Rattle.hl_domain.specs.Domains.{call_of, MakesUnderLock}
use Rattle.hl_images.specs.Flushes.{HasFlushed}
use Rattle.hl_images.proofs.copying.flush_next.Goals as goal

pub returns-in-Ok-answer_copy-clause-flushed : goal.returns-in-Ok-answer_copy-clause-flushed
returns-in-Ok-answer_copy-clause-flushed g c =
    let sizes = c.args.domain.now.sizes in
    let out = c.copy_next.new.out in
    let h = c.in-Ok.ensures.copied in
    subst (λ (j : PageJob). HasFlushed sizes j.page out c.answer_copy.new.rider) (sym c.job-page.ensures) (c.in-Ok-answer_copy.ensures.flushed out h.0 h.1 refl)

pub returns-in-Err-answer_copy-clause-met : goal.returns-in-Err-answer_copy-clause-met
returns-in-Err-answer_copy-clause-met g c =
    let load = c.in-Ok.load in
    let m = c.in-Ok.ensures.met in
    let step = FlushDone load.page true in
    let Answered = λ (r : RiderState). MakesUnderLock g.row.F.Denot c.args.domain.now (call_of step r c.answer_copy.new.rider) (Err c.in-Err-answer_copy.fault) (λ keeper. Ends keeper load.stamp step (λ A. flushed keeper.core.sizes (A ++ step ∷ []))) in
    record {
      mid = m.0;
      taken = Ok load;
      take = m.1;
      rest = (subst Answered m.2 c.in-Err-answer_copy.ensures.met, ap (λ (j : PageJob). Some j) c.in-Err-answer_copy.ensures.refused);
    }
