use Rattle.std.proofs.Common.{true}
use Rattle.hl_core.proofs.state.Core.check.Goals as goal

pub returns-in-Write : goal.returns-in-Write
returns-in-Write g c = rw c.in-Write.is (λ A st. c.may_write.ensures.fault A 0 st)

pub returns-in-FlushDone : goal.returns-in-FlushDone
returns-in-FlushDone g c = rw c.in-FlushDone.is (λ A st. c.may_end_flush.ensures A true st)
