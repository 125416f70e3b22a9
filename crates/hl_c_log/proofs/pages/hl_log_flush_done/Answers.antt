use Rattle.std.proofs.Common.{rules}
use Rattle.hl_model.specs.declared.step.Step.TheVariants.{FlushDone as FLUSH_DONE}
use Rattle.hl_log.specs.Taken.{origin_fault}
use Rattle.hl_c_log.proofs.PageCalls.{ends_by}
use Rattle.hl_c_log.proofs.pages.hl_log_flush_done.Goals as goal

pub returns : goal.returns
returns c = ends_by origin_fault (λ number. FLUSH_DONE number c.args.ok) _ _ _ _ c.in-Some.held.value c.deref_mut.result.now c.flush_done.new.self c.in-Some-take.own.value c.deref.result.now _ c.flush_done.result c.in-Some.ensures.value c.in-Some-take.ensures.value (search rules) (search rules) (search rules) (search rules) c.flush_done.ensures.ended (search rules)
