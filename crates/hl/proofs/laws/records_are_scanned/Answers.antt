-- the law
use Rattle.hl.proofs.ScanLaws.{records_are_scanned}
use Rattle.hl.proofs.laws.records_are_scanned.Goals as goal

pub returns : goal.returns
returns g c = records_are_scanned _ _
