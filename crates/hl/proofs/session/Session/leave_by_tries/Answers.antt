use Rattle.std.proofs.Common.{ap, refl, arith, Ok, Err}
use Rattle.hl_crew.proofs.TryLaws.{tries_again, tries_accepted, tries_refused, tries_all}
use Rattle.hl.specs.Sessions.{SessionState, fault_alone, unseated}
use Rattle.hl.proofs.ActLaws.{leaves_calls, meets_then, meets_one, meets_none}
use Rattle.hl.proofs.LeaveLaws.{kept_then, left_as}
use Rattle.hl.proofs.session.Session.leave_by_tries.Goals as goal

pub loop-init : goal.loop-init
loop-init g c = (refl, record { again = refl }, meets_none c.args.self c.args.self refl)

pub loop-preserved : goal.loop-preserved
loop-preserved g c =
    let before = c.loop.invariant in
    let kept = kept_then c.args.self c.loop.session c.in-Err.refused.back before.0 c.in-Err.ensures.back in
    let log = ap (λ (s : SessionState). s.log) kept in (
      kept_then c.args.self c.in-Err.refused.back c.make_room.new.self kept c.make_room.ensures.kept,
      tries_again before.1 (left_as c.args.self c.loop.session (Err c.in-Err.refused.fault) c.in-Err.refused.back.pass.rider before.0 c.in-Err.ensures.met) c.if-not-make_room.ensures.answer (rw log at c.if-not-make_room.ensures.room),
      meets_then c.args.self c.in-Err.refused.back c.make_room.new.self (meets_then c.args.self c.loop.session c.in-Err.refused.back before.2 (meets_one c.loop.session c.in-Err.refused.back c.in-Err.ensures.did)) c.make_room.ensures.did,
    )

pub returns-in-Ok-clause-met : goal.returns-in-Ok-clause-met
returns-in-Ok-clause-met g c =
    let before = c.loop.invariant in
    tries_accepted before.1 (left_as c.args.self c.loop.session (Ok c.in-Ok.rider) c.in-Ok.rider before.0 c.in-Ok.ensures.met) (omega arith)

pub returns-then-not-make_room-clause-met : goal.returns-then-not-make_room-clause-met
returns-then-not-make_room-clause-met g c =
    let before = c.loop.invariant in
    tries_refused before.1 (left_as c.args.self c.loop.session (Err c.in-Err.refused.fault) c.in-Err.refused.back.pass.rider before.0 c.in-Err.ensures.met) (omega arith) c.if-not-make_room.ensures.answer c.if-not-make_room.ensures.room

pub returns-clause-met : goal.returns-clause-met
returns-clause-met g c =
    let before = c.loop.invariant in
    tries_all before.1 (left_as c.args.self c.loop.session (fault_alone c.leave-2.result) (unseated c.leave-2.result) before.0 c.leave-2.ensures.met) (omega arith)

pub returns-in-Ok-clause-did : goal.returns-in-Ok-clause-did
returns-in-Ok-clause-did g c = let before = c.loop.invariant in leaves_calls c.args.self c.loop.session (Ok c.in-Ok.rider) before.0 before.2 c.in-Ok.ensures.did

pub returns-then-not-make_room-clause-did : goal.returns-then-not-make_room-clause-did
returns-then-not-make_room-clause-did g c =
    let before = c.loop.invariant in
    meets_then c.args.self c.in-Err.refused.back c.make_room.new.self (meets_then c.args.self c.loop.session c.in-Err.refused.back before.2 (meets_one c.loop.session c.in-Err.refused.back c.in-Err.ensures.did)) c.make_room.ensures.did

pub returns-clause-did : goal.returns-clause-did
returns-clause-did g c = let before = c.loop.invariant in leaves_calls c.args.self c.loop.session c.leave-2.result before.0 before.2 c.leave-2.ensures.did
