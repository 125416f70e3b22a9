use Rattle.std.proofs.Common.{rules}
use Rattle.hl_c.proofs.Calls.{take_answers}
use Rattle.hl_c.proofs.bumps.hl_take.Goals as goal

pub returns-in-Some : goal.returns-in-Some
returns-in-Some c = take_answers _ c.put_core.new.self.slot.value c.in-Some.core.value c.take.new.self c.of_taken-outcome.result c.take.result c.in-Some.ensures.core (search rules) (search rules) (search rules) (search rules)
