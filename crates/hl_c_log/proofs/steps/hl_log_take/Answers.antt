use Rattle.std.proofs.Common.{rules}
use Rattle.hl_c_log.proofs.LogCalls.{take_answers}
use Rattle.hl_c_log.proofs.steps.hl_log_take.Goals as goal

pub returns-in-Some : goal.returns-in-Some
returns-in-Some c = take_answers _ c.put.new.self.slot.value c.in-Some.held.value c.take-in-Some.new.self c.of_taken-outcome.result c.take-in-Some.result c.in-Some.ensures.value (search rules) (search rules) (search rules) (search rules) (search rules)
