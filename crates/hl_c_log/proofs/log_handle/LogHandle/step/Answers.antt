use Rattle.std.proofs.Common.{rules}
use Rattle.hl_c_log.proofs.LogCalls.{step_answers}
use Rattle.hl_c_log.proofs.log_handle.LogHandle.step.Goals as goal

pub returns-in-Some : goal.returns-in-Some
returns-in-Some c = step_answers _ c.put.new.self.slot.value c.in-Some.log.value _ c.step.new.self c.args.step c.of-outcome.result c.step.result c.in-Some.ensures.value (search rules) c.step.ensures.made (search rules) (search rules)
