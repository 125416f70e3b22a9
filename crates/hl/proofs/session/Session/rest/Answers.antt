use Rattle.hl.proofs.session.Session.rest.Goals as goal

pub returns-clause-rests : goal.returns-clause-rests
returns-clause-rests g c = rw (← c.self.view_is) c.replace_with.ensures.0
