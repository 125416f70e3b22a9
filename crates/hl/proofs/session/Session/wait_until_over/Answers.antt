use Rattle.std.proofs.Common.{zero, suc, refl, ap, ◌∙◌}
use Rattle.hl.specs.Sessions.{SessionState}
use Rattle.hl.proofs.ActLaws.{meets_then, meets_one, meets_none}
use Rattle.hl.proofs.WaitLaws.{helped_on}
use Rattle.hl.proofs.session.Session.wait_until_over.Goals as goal

pub loop-init : goal.loop-init
loop-init g c = (tt, tt, refl, refl, refl, (zero, refl), meets_none c.args.self.now c.args.self.now refl)

pub loop-preserved : goal.loop-preserved
loop-preserved g c =
    let kept = c.is_over.ensures.kept in
    let before = c.loop.invariant in (
      tt,
      tt,
      c.in-Ok.ensures.log ∙ ap (λ (s : SessionState). s.log) kept ∙ before.2,
      c.in-Ok.ensures.slot ∙ ap (λ (s : SessionState). s.pass.slot) kept ∙ before.3,
      c.in-Ok.ensures.beside ∙ ap (λ (s : SessionState). s.beside) kept ∙ before.4,
      (
        suc before.5.0,
        (
          c.loop.self.pass,
          before.5.1,
          (c.in-Ok.field-0, helped_on g.row.F.Denot c.args.self.now g.F.Task.gives g.P.Promise.keeps c.args.ticket c.loop.self c.is_over.new.self c.help_or_nap.new.self _ before.2 before.4 c.is_over.ensures.kept c.in-Ok.ensures.helped c.is_over.result c.if-is_over.false c.is_over.ensures.met),
        ),
      ),
      meets_then c.args.self.now c.is_over.new.self c.help_or_nap.new.self (meets_then c.args.self.now c.loop.self c.is_over.new.self before.6 (meets_one c.loop.self c.is_over.new.self c.is_over.ensures.did)) c.in-Ok.ensures.did,
    )

pub returns-in-Err-clause-waits : goal.returns-in-Err-clause-waits
returns-in-Err-clause-waits g c =
    let before = c.loop.invariant in
    record {
      rounds = before.5.0;
      last = c.loop.self.pass;
      before = before.5.1;
      ended = helped_on g.row.F.Denot c.args.self.now g.F.Task.gives g.P.Promise.keeps c.args.ticket c.loop.self c.is_over.new.self c.help_or_nap.new.self _ before.2 before.4 c.is_over.ensures.kept c.in-Err.ensures.helped c.is_over.result c.if-is_over.false c.is_over.ensures.met;
    }

pub returns-then-is_over-clause-did : goal.returns-then-is_over-clause-did
returns-then-is_over-clause-did g c = let before = c.loop.invariant in meets_then c.args.self.now c.loop.self c.is_over.new.self before.6 (meets_one c.loop.self c.is_over.new.self c.is_over.ensures.did)

pub returns-in-Err-clause-did : goal.returns-in-Err-clause-did
returns-in-Err-clause-did g c = let before = c.loop.invariant in meets_then c.args.self.now c.is_over.new.self c.help_or_nap.new.self (meets_then c.args.self.now c.loop.self c.is_over.new.self before.6 (meets_one c.loop.self c.is_over.new.self c.is_over.ensures.did)) c.in-Err.ensures.did
