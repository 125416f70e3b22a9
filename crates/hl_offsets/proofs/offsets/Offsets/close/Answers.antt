use Rattle.std.proofs.Common.{rules}
use Rattle.hl_offsets.proofs.offsets.Offsets.close.Goals as goal

pub returns-clause-answer : goal.returns-clause-answer
returns-clause-answer c = search rules

pub returns-clause-effect : goal.returns-clause-effect
returns-clause-effect c = search rules

pub returns-clause-rising : goal.returns-clause-rising
returns-clause-rising c = search rules
