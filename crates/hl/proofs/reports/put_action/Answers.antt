use Rattle.hl.proofs.ReportLaws.{second_left}
use Rattle.hl.proofs.reports.put_action.Goals as goal

pub returns-in-Ok-clause-left : goal.returns-in-Ok-clause-left
returns-in-Ok-clause-left g c = second_left c.put_holders.result _ _ _ _ _ c.in-Ok.ensures.ok c.put_holders.ensures.left
