use Rattle.std.proofs.Common.{rules}
use Rattle.hl_c.proofs.Calls.{step_answers}
use Rattle.hl_c.proofs.handle.Handle.step.Goals as goal

pub returns-in-Some : goal.returns-in-Some
returns-in-Some g c = step_answers _ c.put_core.new.self.slot.value c.in-Some.core.value c.call.new.arg2 c.args._step c.of-outcome.result c.call.result c.in-Some.ensures.core (c.requires.made _ _ _ (search rules)) (search rules) (search rules)
