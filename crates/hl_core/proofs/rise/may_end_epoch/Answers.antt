use Rattle.std.proofs.Common.{rules}
use Rattle.hl_core.proofs.rise.may_end_epoch.Goals as goal

pub returns-clause-answer : goal.returns-clause-answer
returns-clause-answer g c = search rules

pub returns-clause-room : goal.returns-clause-room
returns-clause-room g c = search rules
