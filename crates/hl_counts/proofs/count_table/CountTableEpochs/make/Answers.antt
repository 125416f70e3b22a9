use Rattle.std.proofs.Common.{rules}
use Rattle.hl_counts.proofs.count_table.CountTableEpochs.make.Goals as goal

pub returns-clause-turns : goal.returns-clause-turns
returns-clause-turns c = search rules
