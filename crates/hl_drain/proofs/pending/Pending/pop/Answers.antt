use Rattle.std.proofs.Common.{rules}
use Rattle.hl_drain.proofs.pending.Pending.pop.Goals as goal

pub returns-clause-value : goal.returns-clause-value
returns-clause-value g c = search rules

pub returns-clause-rest : goal.returns-clause-rest
returns-clause-rest g c = search rules
