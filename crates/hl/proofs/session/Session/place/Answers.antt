use Rattle.std.proofs.Common.{ap, arith, ◌+◌, ◌∙◌, length}
use Rattle.hl_keeper.specs.Passes.{seen, with_rider, with_tail}
use Rattle.hl.specs.Sessions.{SessionState}
use Rattle.hl.proofs.RecordLaws.{held_tail}
use Rattle.hl.proofs.RecordActs.{places_all, places_some, places_none}
use Rattle.hl.proofs.session.Session.place.Goals as goal

pub returns-in-Err-clause-did : goal.returns-in-Err-clause-did
returns-in-Err-clause-did g c = places_none c.args.words.now c.in-Err.fault c.args.self.now c.allocate.new.self c.in-Err.ensures.did

pub returns-in-Ok-store_all-clause-did : goal.returns-in-Ok-store_all-clause-did
returns-in-Ok-store_all-clause-did g c = places_all c.in-Ok.address c.args.words.now c.args.self.now c.allocate.new.self c.store_all.new.self c.in-Ok.ensures.did c.in-Ok-store_all.ensures.did

pub returns-in-Err-store_all-clause-did : goal.returns-in-Err-store_all-clause-did
returns-in-Err-store_all-clause-did g c = places_some c.in-Ok.address c.args.words.now c.in-Err-store_all.fault c.args.self.now c.allocate.new.self c.store_all.new.self c.in-Ok.ensures.did c.in-Err-store_all.ensures.did

pub returns-in-Ok-store_all-clause-rises : goal.returns-in-Ok-store_all-clause-rises
returns-in-Ok-store_all-clause-rises g c =
    let pass = with_rider c.allocate.new.self.pass.rider c.args.self.now.pass in
    let mid = ap (λ (s : SessionState). (seen s.pass).tail) c.in-Ok.ensures.pass ∙ held_tail pass.epoch (with_tail (c.in-Ok.address + length c.args.words.now) (seen pass)) pass in
    omega (arith, c.in-Ok.ensures.above, mid, c.store_all.ensures.rises)

pub returns-in-Ok-store_all-clause-sees : goal.returns-in-Ok-store_all-clause-sees
returns-in-Ok-store_all-clause-sees g c =
    let pass = with_rider c.allocate.new.self.pass.rider c.args.self.now.pass in
    let mid = ap (λ (s : SessionState). (seen s.pass).tail) c.in-Ok.ensures.pass ∙ held_tail pass.epoch (with_tail (c.in-Ok.address + length c.args.words.now) (seen pass)) pass in
    omega (arith, mid, c.store_all.ensures.rises)

pub returns-in-Err-store_all-clause-rises : goal.returns-in-Err-store_all-clause-rises
returns-in-Err-store_all-clause-rises g c =
    let pass = with_rider c.allocate.new.self.pass.rider c.args.self.now.pass in
    let mid = ap (λ (s : SessionState). (seen s.pass).tail) c.in-Ok.ensures.pass ∙ held_tail pass.epoch (with_tail (c.in-Ok.address + length c.args.words.now) (seen pass)) pass in
    omega (arith, c.in-Ok.ensures.above, mid, c.store_all.ensures.rises)
