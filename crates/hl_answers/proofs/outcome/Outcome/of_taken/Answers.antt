use Rattle.std.proofs.Common.{rules}
use Rattle.hl_answers.proofs.outcome.Outcome.of_taken.Goals as goal

pub returns-in-Some : goal.returns-in-Some
returns-in-Some c = search rules
