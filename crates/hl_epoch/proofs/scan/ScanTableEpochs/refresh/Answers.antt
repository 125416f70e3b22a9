use Rattle.std.proofs.Common.{rules}
use Rattle.hl_epoch.proofs.Tables.{IsTable-entered, safe_of-entered}
use Rattle.hl_epoch.proofs.scan.ScanTableEpochs.refresh.Goals as goal

pub returns-clause-effect : goal.returns-clause-effect
returns-clause-effect c = search rules

pub invariant_of-self : goal.invariant_of-self
invariant_of-self c = (IsTable-entered _ _ c.self.invariant.0, c.self.invariant.1)

pub returns-clause-valid : goal.returns-clause-valid
returns-clause-valid c = (invariant_of-self c).0

pub returns-clause-rising : goal.returns-clause-rising
returns-clause-rising c = rw (← c.self.view_is) (safe_of-entered _ _ c.self.invariant.0)
