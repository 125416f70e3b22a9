use Rattle.std.proofs.Common.{rules}
use Rattle.hl_line.proofs.steps.write_step.Goals as goal

pub returns-in-Allocate : goal.returns-in-Allocate
returns-in-Allocate c = search rules
