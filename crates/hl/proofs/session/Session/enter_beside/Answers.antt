use Rattle.hl.proofs.ActLaws.{entered, rider_stays}
use Rattle.hl.proofs.session.Session.enter_beside.Goals as goal

-- its rider has a trace
pub invariant_of-result : goal.invariant_of-result
invariant_of-result g c = (entered g.row.F.Denot c.args.log.now c.args.rider c.in-Ok.pass c.in-Ok.ensures.met c.requires).1.0

pub returns-in-Ok-clause-did : goal.returns-in-Ok-clause-did
returns-in-Ok-clause-did g c = let m = entered g.row.F.Denot c.args.log.now c.args.rider c.in-Ok.pass c.in-Ok.ensures.met c.requires in (m.0, m.1.1)

pub returns-in-Err-clause-did : goal.returns-in-Err-clause-did
returns-in-Err-clause-did g c = rider_stays g.row.F.Denot c.args.log.now c.args.rider c.in-Err.back c.in-Err.ensures.met c.requires
