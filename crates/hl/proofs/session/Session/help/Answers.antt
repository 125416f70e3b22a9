use Rattle.std.proofs.Common.{rules, ◌≡◌, refl, Err}
use Rattle.hl.proofs.HelpLaws.{helped, helps_enter, refused_run}
use Rattle.hl.proofs.ActLaws.{meets_then, meets_one}
use Rattle.hl.proofs.session.Session.help.Goals as goal

pub returns-in_err-did-clause-helped : goal.returns-in_err-did-clause-helped
returns-in_err-did-clause-helped g c =
    let was = c.args.self.now in
    let cut = c.cut_as_is_due.ensures in
    let is : c.from_residual.result ≡ Err c.in_err-did.field-0.0 = search rules in
    rw is (refused_run g.row.F.Denot was.log g.F.Task.gives g.P.Promise.keeps was.beside.cuts was c.cut_as_is_due.new.self c.run_oldest.new.self refl cut.cut cut.kept c.in_err-did.ensures.kept c.in_err-did.field-0.0 c.in_err-did.ensures.ran)

pub returns-clause-steps : goal.returns-clause-steps
returns-clause-steps g c =
    let F = g.row.F.Denot in
    let was = c.args.self.now in
    let cut = c.cut_as_is_due.ensures in
    helps_enter F was.log g.F.Task.gives g.P.Promise.keeps was.beside.cuts c.in_ok-did.did was.pass c.refresh.new.self.pass
    (helped F was.log g.F.Task.gives g.P.Promise.keeps was.beside.cuts was c.cut_as_is_due.new.self c.run_oldest.new.self refl cut.cut cut.kept c.in_ok-did.ensures.kept c.in_ok-did.did c.in_ok-refresh.field-0 c.refresh.new.self.pass c.in_ok-did.ensures.ran c.in_ok-refresh.ensures.refreshed)

pub returns-in_err-did-clause-did : goal.returns-in_err-did-clause-did
returns-in_err-did-clause-did g c = meets_then c.args.self.now c.cut_as_is_due.new.self c.run_oldest.new.self c.cut_as_is_due.ensures.did c.in_err-did.ensures.did

pub returns-in_err-refresh-clause-did : goal.returns-in_err-refresh-clause-did
returns-in_err-refresh-clause-did g c = meets_then c.args.self.now c.run_oldest.new.self c.refresh.new.self (meets_then c.args.self.now c.cut_as_is_due.new.self c.run_oldest.new.self c.cut_as_is_due.ensures.did c.in_ok-did.ensures.did) (meets_one c.run_oldest.new.self c.refresh.new.self c.in_err-refresh.ensures.did)

pub returns-clause-did : goal.returns-clause-did
returns-clause-did g c = meets_then c.args.self.now c.run_oldest.new.self c.refresh.new.self (meets_then c.args.self.now c.cut_as_is_due.new.self c.run_oldest.new.self c.cut_as_is_due.ensures.did c.in_ok-did.ensures.did) (meets_one c.run_oldest.new.self c.refresh.new.self c.in_ok-refresh.ensures.did)
