use Rattle.hl.proofs.RoomLaws.{room_for_one}
use Rattle.hl.proofs.ActLaws.{meets_up, meets_one}
use Rattle.hl.proofs.session.Session.keep_up_for.Goals as goal

pub returns-then-n-le1-clause-room : goal.returns-then-n-le1-clause-room
returns-then-n-le1-clause-room g c =
    room_for_one g.row.F.Denot c.args.self.now.log c.args.self.now.pass c.keep_up.new.self.pass c.args.n c.keep_up.result c.if-n-le1.true c.keep_up.ensures.kept c.keep_up.ensures.refreshed

pub returns-then-n-le1-clause-did : goal.returns-then-n-le1-clause-did
returns-then-n-le1-clause-did g c = meets_up c.args.self.now c.keep_up.new.self c.keep_up.ensures.did

pub returns-else-n-le1-clause-did : goal.returns-else-n-le1-clause-did
returns-else-n-le1-clause-did g c = meets_one c.args.self.now c.refresh.new.self c.refresh.ensures.did
