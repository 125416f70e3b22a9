use Rattle.hl.proofs.session.rest.Resting.resume.Goals as goal

-- the log and the rider are those of the call
pub returns-in-Err-clause-met : goal.returns-in-Err-clause-met
returns-in-Err-clause-met g c = rw (← c.self.view_is) c.in-Err.ensures.met
