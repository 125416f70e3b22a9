use Rattle.hl.proofs.ReportLaws.{both_told, first_breaks}
use Rattle.hl.proofs.reports.put_report.Goals as goal

pub returns-in-Ok : goal.returns-in-Ok
returns-in-Ok g c = both_told c.put_oldest.result _ _ _ _ _ c.in-Ok.ensures.ok c.put_oldest.ensures.ok c.put_oldest.ensures.err c.put_oldest.ensures.left

pub returns-in-Err : goal.returns-in-Err
returns-in-Err g c = (c.in-Err.ensures.err, first_breaks _ _ _ _ c.in-Err.ensures.left)
