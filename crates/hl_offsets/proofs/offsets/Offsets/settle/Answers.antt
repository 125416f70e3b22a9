use Rattle.std.proofs.Common.{rules}
use Rattle.hl_offsets.proofs.offsets.Offsets.settle.Goals as goal

pub invariant_of-self : goal.invariant_of-self
invariant_of-self c = search rules

pub returns-clause-answer : goal.returns-clause-answer
returns-clause-answer c = search rules

pub returns-clause-effect : goal.returns-clause-effect
returns-clause-effect c = search rules

pub returns-clause-rising : goal.returns-clause-rising
returns-clause-rising c = search rules

pub returns-clause-valid : goal.returns-clause-valid
returns-clause-valid c = search rules
