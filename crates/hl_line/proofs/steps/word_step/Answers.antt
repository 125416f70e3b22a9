use Rattle.std.proofs.Common.{rules}
use Rattle.hl_line.proofs.steps.word_step.Goals as goal

pub returns-then-eq-3 : goal.returns-then-eq-3
returns-then-eq-3 c = search rules
