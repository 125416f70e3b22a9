use Rattle.std.proofs.Common.{suc}
use Rattle.hl.specs.Rests.{Reenters}
use Rattle.hl.proofs.ActLaws.{reentered}
use Rattle.hl.proofs.session.away.enter_again.Goals as goal

pub returns-in-Ok : goal.returns-in-Ok
returns-in-Ok g c =
    let before = c.loop.invariant.2 in
    let all : Reenters g.row.F.Denot c.args.log.now c.args.cuts c.args.rider c.in-Ok.pass = record { refused = before.0; last = c.loop.rider; before = before.1; entered = c.in-Ok.ensures.met } in
    record { again = all; did = reentered g.row.F.Denot c.args.log.now c.args.cuts c.args.rider c.in-Ok.pass all }

pub loop-preserved : goal.loop-preserved
loop-preserved g c =
    let before = c.loop.invariant.2 in
    (tt, tt, (suc before.0, (c.loop.rider, before.1, (c.in-Err.fault, c.in-Err.back, c.in-Err.ensures.met, c.cut_if_due.ensures))))
