use Rattle.std.proofs.Common.{rules}
use Rattle.hl_epoch.proofs.scan.ScanTableEpochs.epoch_of.Goals as goal

pub returns-in_err-get-clause-value : goal.returns-in_err-get-clause-value
returns-in_err-get-clause-value c = search rules

pub returns-clause-value : goal.returns-clause-value
returns-clause-value c = search rules
