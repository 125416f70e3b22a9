use Rattle.std.proofs.Common.{rules}
use Rattle.hl_plain.proofs.plain.Plain.steps.Goals as goal

pub returns-clause-steps : goal.returns-clause-steps
returns-clause-steps c = search rules
