use Rattle.std.proofs.Common.{rules}
use Rattle.hl_answers.proofs.outcome.Outcome.no_core.Goals as goal

pub returns : goal.returns
returns c = search rules
