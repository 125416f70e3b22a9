use Rattle.std.proofs.Common.{rules}
use Rattle.hl_answers.proofs.quantities.SixOutcome.of.Goals as goal

pub returns : goal.returns
returns c = search rules
