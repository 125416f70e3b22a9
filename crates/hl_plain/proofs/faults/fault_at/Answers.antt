use Rattle.hl_plain.proofs.faults.fault_at.Goals as goal

pub returns-in-FlushDone : goal.returns-in-FlushDone
returns-in-FlushDone c = rw c.in-FlushDone.is c.return_fault.ensures
