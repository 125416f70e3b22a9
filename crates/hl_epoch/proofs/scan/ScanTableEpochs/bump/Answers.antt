use Rattle.std.proofs.Common.{rules}
use Rattle.hl_epoch.proofs.Tables.{IsTable-bumped, safe_of-bumped}
use Rattle.hl_epoch.proofs.scan.ScanTableEpochs.bump.Goals as goal

pub returns-clause-answer : goal.returns-clause-answer
returns-clause-answer c = search rules

pub invariant_of-self : goal.invariant_of-self
invariant_of-self c = (IsTable-bumped _ c.self.invariant.0 (search rules) (search rules), c.self.invariant.1)

pub returns-clause-valid : goal.returns-clause-valid
returns-clause-valid c = (invariant_of-self c).0

pub returns-clause-rising : goal.returns-clause-rising
returns-clause-rising c = rw (← c.self.view_is) (safe_of-bumped _ c.self.invariant.0)
