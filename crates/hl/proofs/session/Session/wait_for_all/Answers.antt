use Rattle.std.proofs.Common.{ap}
use Rattle.hl.specs.Sessions.{SessionState}
use Rattle.hl.proofs.ActLaws.{meets_then, meets_one}
use Rattle.hl.proofs.WaitLaws.{for_all_if}
use Rattle.hl.proofs.session.Session.wait_for_all.Goals as goal

pub returns-in-Ok-clause-all : goal.returns-in-Ok-clause-all
returns-in-Ok-clause-all g c =
    let log = ap (λ (s : SessionState). s.log) c.in-Ok.ensures.kept in
    let pass = ap (λ (s : SessionState). s.pass) c.in-Ok.ensures.kept in
    let cuts = ap (λ (s : SessionState). s.beside.cuts) c.in-Ok.ensures.kept in
    for_all_if g.row.F.Denot c.args.self.now.log c.args.self.now.beside.cuts g.F.Task.gives g.P.Promise.keeps c.in-Ok.ticket c.bare.new.self.pass.rider c.args.self.now.pass c.wait.new.self.pass c.wait.result
    c.in-Ok.ensures.met (rw (log, cuts, pass) at c.wait.ensures.waits)

pub returns-in-Ok-clause-did : goal.returns-in-Ok-clause-did
returns-in-Ok-clause-did g c = meets_then c.args.self.now c.bare.new.self c.wait.new.self (meets_one c.args.self.now c.bare.new.self c.in-Ok.ensures.did) c.wait.ensures.did
