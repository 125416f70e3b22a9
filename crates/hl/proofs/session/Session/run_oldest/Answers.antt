use Rattle.std.proofs.Common.{rules, ap, inl}
use Rattle.hl.specs.Sessions.{SessionState}
use Rattle.hl.proofs.HelpLaws.{runs_it}
use Rattle.hl.proofs.ActLaws.{meets_then, meets_one}
use Rattle.hl.proofs.session.Session.run_oldest.Goals as goal

pub returns-in-Ok-clause-ran : goal.returns-in-Ok-clause-ran
returns-in-Ok-clause-ran g c =
    let log = ap (λ (s : SessionState). s.log) c.in-Ok.ensures.kept in
    let ends = rw log at c.end.ensures.ends in
    runs_it g.row.F.Denot c.args.self.now.log g.F.Task.gives g.P.Promise.keeps c.in-Ok.ready c.run.result c.args.self.now.pass.rider c.take.new.self.pass.rider c.end.new.self.pass.rider c.end.result ends.0
    c.in-Ok.ensures.met (record {
      origin = c.run.ensures.origin;
      ticket = c.run.ensures.ticket;
      answered = c.run.ensures.answered;
      given = c.run.ensures.gives;
      kept = c.run.ensures.keeps;
    }) ends.1 ends.2

pub returns-in_default : goal.returns-in_default
returns-in_default g c = record { ran = inl (c.in-Err.ensures.met, search rules); did = meets_one c.args.self.now c.take.new.self c.in-Err.ensures.did; kept = c.in-Err.ensures.kept }

pub returns-in-Ok-clause-did : goal.returns-in-Ok-clause-did
returns-in-Ok-clause-did g c = meets_then c.args.self.now c.take.new.self c.end.new.self (meets_one c.args.self.now c.take.new.self c.in-Ok.ensures.did) c.end.ensures.did
