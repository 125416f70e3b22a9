use Rattle.std.proofs.Common.{rules}
use Rattle.hl_line.proofs.fault.name.Goals as goal

pub returns-in-Stale-clause-value : goal.returns-in-Stale-clause-value
returns-in-Stale-clause-value c = search rules
