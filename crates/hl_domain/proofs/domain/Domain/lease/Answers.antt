use Rattle.hl_domain.proofs.domain.Domain.lease.Goals as goal

-- the lease begins where the allocation placed the piece
pub returns-in-Ok-clause-met : goal.returns-in-Ok-clause-met
returns-in-Ok-clause-met g c = rw c.of.ensures c.in-Ok.ensures.met
