use Rattle.std.proofs.Common.{rules}
use Rattle.hl_offsets.proofs.offsets.Offsets.six.Goals as goal

pub returns-clause-value : goal.returns-clause-value
returns-clause-value c = search rules

pub returns-clause-in_order : goal.returns-clause-in_order
returns-clause-in_order c = search rules
