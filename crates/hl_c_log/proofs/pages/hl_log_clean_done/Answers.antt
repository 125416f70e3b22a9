use Rattle.std.proofs.Common.{rules}
use Rattle.hl_model.specs.declared.step.Step.TheVariants.{CleanDone as CLEAN_DONE}
use Rattle.hl_log.specs.Taken.{unswept_fault}
use Rattle.hl_c_log.proofs.PageCalls.{ends_by}
use Rattle.hl_c_log.proofs.pages.hl_log_clean_done.Goals as goal

pub returns : goal.returns
returns c = ends_by unswept_fault (λ number. CLEAN_DONE number) _ _ _ _ c.in-Some.held.value c.deref_mut.result.now c.clean_done.new.self c.in-Some-take.own.value c.deref.result.now _ c.clean_done.result c.in-Some.ensures.value c.in-Some-take.ensures.value (search rules) (search rules) (search rules) (search rules) c.clean_done.ensures.ended (search rules)
