use Rattle.std.proofs.Common.{rules}
use Rattle.hl_action.proofs.ready.Ready.run.Goals as goal

pub returns-clause-gives : goal.returns-clause-gives
returns-clause-gives g c = search rules

pub returns-clause-keeps : goal.returns-clause-keeps
returns-clause-keeps g c = search rules
