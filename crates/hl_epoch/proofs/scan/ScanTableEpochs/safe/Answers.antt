use Rattle.std.proofs.Common.{rules}
use Rattle.hl_epoch.proofs.scan.ScanTableEpochs.safe.Goals as goal

pub returns-clause-value : goal.returns-clause-value
returns-clause-value c = search rules
