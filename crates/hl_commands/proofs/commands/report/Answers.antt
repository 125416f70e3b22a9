use Rattle.hl_commands.proofs.StatusLaws.{reported_as}
use Rattle.hl_commands.proofs.commands.report.Goals as goal

pub returns-clause-reported : goal.returns-clause-reported
returns-clause-reported g c = reported_as _ _ _ _ _ _ _ _ c.tell-ended.ensures c.of.ensures.kept c.status_of.ensures
