use Rattle.std.proofs.Common.{refl, ap, arith, ◌∙◌}
use Rattle.hl_keeper.specs.Passes.{seen, store_fault}
use Rattle.hl.specs.Sessions.{SessionState}
use Rattle.hl.proofs.RecordLaws.{none_stored, stored_tail, store_answered}
use Rattle.std.proofs.Common.{Ok}
use Rattle.hl.proofs.RecordActs.{stored_after, answered_after}
use Rattle.hl.proofs.ActLaws.{meets_none}
use Rattle.hl.proofs.session.Session.store_one.Goals as goal

pub returns-in-Ok-clause-stored : goal.returns-in-Ok-clause-stored
returns-in-Ok-clause-stored g c =
    let log = c.args.self.now.log in
    let p = c.args.self.now.pass in
    let a = c.args.address in
    store_answered g.row.F.Denot log a c.args.word p p c.store.new.self.pass (store_fault p a) _ (none_stored log.sizes a p p refl) refl (λ full. absurd cc) c.in-Ok.ensures.stored.answer
    (ap (λ (s : SessionState). s.pass) c.store.ensures.stored.pass)

pub returns-in_default-clause-stored : goal.returns-in_default-clause-stored
returns-in_default-clause-stored g c =
    let log = c.args.self.now.log in
    let p = c.args.self.now.pass in
    let a = c.args.address in
    store_answered g.row.F.Denot log a c.args.word p p c.store.new.self.pass (store_fault p a) _ (none_stored log.sizes a p p refl) refl (λ full. c.in_default.not-TouchesFull cc) c.in-Err.ensures.stored.answer
    (ap (λ (s : SessionState). s.pass) c.store.ensures.stored.pass)

pub returns-in-Ok-clause-did : goal.returns-in-Ok-clause-did
returns-in-Ok-clause-did g c = stored_after c.args.address c.args.word (Ok tt) c.args.self.now c.args.self.now c.store.new.self (meets_none c.args.self.now c.args.self.now refl) c.in-Ok.ensures.did

pub returns-in_default-clause-did : goal.returns-in_default-clause-did
returns-in_default-clause-did g c = meets_none c.args.self.now c.store.new.self c.in-Err.ensures.did

pub returns-in-TouchesFull-clause-did : goal.returns-in-TouchesFull-clause-did
returns-in-TouchesFull-clause-did g c = answered_after c.args.address c.args.word c.store_refreshed.result c.args.self.now c.store.new.self c.store_refreshed.new.self c.in-Err.ensures.did c.store_refreshed.ensures.did

pub returns-in-Ok-clause-rises : goal.returns-in-Ok-clause-rises
returns-in-Ok-clause-rises g c =
    let m = c.args.self.now in
    let a = c.args.address in
    let stored = ap (λ (s : SessionState). (seen s.pass).tail) c.store.ensures.stored.pass ∙ stored_tail m.log.sizes a c.args.word m.pass (store_fault m.pass a) in
    omega (arith, stored)
