use Rattle.std.proofs.Common.{rules}
use Rattle.hl_core.proofs.state.Core.settle.Goals as goal

pub returns-clause-made : goal.returns-clause-made
returns-clause-made g c = search rules

pub returns-clause-jobs : goal.returns-clause-jobs
returns-clause-jobs g c = search rules
