use Rattle.std.proofs.Common.{rules}
use Rattle.hl_script.proofs.answers.put_result.Goals as goal

pub returns-clause-ok : goal.returns-clause-ok
returns-clause-ok g c = search rules

pub returns-clause-left : goal.returns-clause-left
returns-clause-left g c = search rules
