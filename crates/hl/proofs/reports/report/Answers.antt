use Rattle.hl.proofs.ReportLaws.{told_of}
use Rattle.hl.proofs.reports.report.Goals as goal

pub returns : goal.returns
returns g c = (_, told_of c.snapshot-told.ensures.met c.holders-oldest.ensures.met, rw c.as_slice.ensures.value at c.put_report.ensures)
