use Rattle.std.proofs.Common.{rules}
use Rattle.hl_epoch.proofs.Tables.{IsTable-entered, safe_of-entered}
use Rattle.hl_epoch.proofs.scan.ScanTableEpochs.acquire.Goals as goal

pub invariant_of-self : goal.invariant_of-self
invariant_of-self c = (IsTable-entered _ _ c.self.invariant.0, c.self.invariant.1)

pub returns-in-Some-None-clause-valid : goal.returns-in-Some-None-clause-valid
returns-in-Some-None-clause-valid c = (invariant_of-self c).0

pub returns-in-Some-None-clause-rising : goal.returns-in-Some-None-clause-rising
returns-in-Some-None-clause-rising c = rw (← c.self.view_is) (safe_of-entered _ _ c.self.invariant.0)

pub returns-in-Some-Some-clause-answer : goal.returns-in-Some-Some-clause-answer
returns-in-Some-Some-clause-answer c = search rules
