use Rattle.std.proofs.Common.{arith, ◌+◌, [], ◌∷◌, get_or, refl, subst, ◌∙◌}
use Rattle.hl_domain.specs.Domains.{DomainState}
use Rattle.hl.specs.Records.{AreStored}
use Rattle.hl.proofs.RecordActs.{stored_none, stores_next, stores_stop}
use Rattle.hl.proofs.RecordLaws.{none_stored, stored_next}
use Rattle.hl.proofs.session.Session.store_all.Goals as goal

pub loop-k-init : goal.loop-k-init
loop-k-init g c = (refl, refl, none_stored c.args.self.now.log.sizes c.args.address c.args.self.now.pass c.args.self.now.pass refl, stored_none c.args.address c.args.self.now, omega arith)

pub loop-k-preserved : goal.loop-k-preserved
loop-k-preserved g c =
    let log = c.args.self.now.log in
    let words = c.args.words.now in
    let a = c.args.address in
    let k = c.loop-k.k in
    let m = c.loop-k.self.pass in
    let q = c.store_one.new.self.pass in
    let met = c.loop-k.invariant in (
      c.store_one.ensures.log ∙ met.0,
      c.store_one.ensures.beside ∙ met.1,
      stored_next log.sizes a k 0 words c.args.self.now.pass m q c.loop-k-test.true met.2
          (subst (λ (l : DomainState). AreStored l.sizes (a + k) (get_or words k 0 ∷ []) m q) met.0 c.in-Ok.ensures.stored),
      stores_next a k 0 words c.args.self.now c.loop-k.self c.store_one.new.self c.loop-k-test.true met.3 c.in-Ok.ensures.did,
      omega (arith, met.4, c.store_one.ensures.rises),
    )

pub returns-in-Err-clause-did : goal.returns-in-Err-clause-did
returns-in-Err-clause-did g c = stores_stop c.args.address c.loop-k.k c.args.words.now c.args.self.now c.loop-k.self c.store_one.new.self c.loop-k-test.true c.loop-k.invariant.3 c.in-Err.ensures.did

pub returns-in-Err-clause-rises : goal.returns-in-Err-clause-rises
returns-in-Err-clause-rises g c = omega (arith, c.loop-k.invariant.4, c.store_one.ensures.rises)
