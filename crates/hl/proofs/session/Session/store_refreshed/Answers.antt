use Rattle.std.proofs.Common.{refl, ap, ◌∙◌, arith}
use Rattle.hl_model.specs.Replies.{unless_refused}
use Rattle.hl_keeper.specs.Passes.{PassRecord, seen, store_fault, with_rider, with_store}
use Rattle.hl_domain.specs.Domains.{DomainState}
use Rattle.hl.specs.Sessions.{SessionState}
use Rattle.hl.proofs.RecordLaws.{made_room, held_tail, stored_tail, refreshed, refresh_refused, store_answered}
use Rattle.hl.proofs.RecordActs.{stored_after}
use Rattle.hl.proofs.ActLaws.{meets_one}
use Rattle.hl.proofs.session.Session.store_refreshed.Goals as goal

pub returns-in-Ok-clause-stored : goal.returns-in-Ok-clause-stored
returns-in-Ok-clause-stored g c =
    let log = c.args.self.now.log in
    let p = c.args.self.now.pass in
    let m = c.refresh.new.self.pass in
    let a = c.args.address in
    store_answered g.row.F.Denot log a c.args.word p m c.store.new.self.pass (store_fault m a) c.store.result (refreshed log log.sizes a p m c.in-Ok.field-0 c.requires c.in-Ok.ensures.refreshed) refl (made_room log a p m c.in-Ok.field-0 c.store.result c.in-Ok.ensures.refreshed c.store.ensures.stored.answer) c.store.ensures.stored.answer
    (ap (λ (s : SessionState). s.pass) c.store.ensures.stored.pass ∙ ap (λ (l : DomainState). unless_refused (store_fault m a) m (with_store l.sizes a c.args.word m)) c.refresh.ensures.log)

pub returns-in-Err-clause-stored : goal.returns-in-Err-clause-stored
returns-in-Err-clause-stored g c =
    refresh_refused g.row.F.Denot c.args.self.now.log c.args.address c.in-Err.fault c.args.self.now.pass c.refresh.new.self.pass c.requires c.in-Err.ensures.refreshed

pub returns-in-Ok-clause-did : goal.returns-in-Ok-clause-did
returns-in-Ok-clause-did g c = stored_after c.args.address c.args.word c.store.result c.args.self.now c.refresh.new.self c.store.new.self (meets_one c.args.self.now c.refresh.new.self c.in-Ok.ensures.did) c.store.ensures.did

pub returns-in-Err-clause-did : goal.returns-in-Err-clause-did
returns-in-Err-clause-did g c = meets_one c.args.self.now c.refresh.new.self c.in-Err.ensures.did

pub returns-in-Ok-clause-rises : goal.returns-in-Ok-clause-rises
returns-in-Ok-clause-rises g c =
    let m = c.refresh.new.self in
    let a = c.args.address in
    let after = ap (λ (p : PassRecord). (seen p).tail) c.in-Ok.ensures.refreshed.pass ∙ held_tail m.pass.epoch c.in-Ok.field-0 (with_rider m.pass.rider c.args.self.now.pass) in
    let stored = ap (λ (s : SessionState). (seen s.pass).tail) c.store.ensures.stored.pass ∙ stored_tail m.log.sizes a c.args.word m.pass (store_fault m.pass a) in
    omega (arith, c.in-Ok.ensures.refreshed.fresh.2, after, stored)
