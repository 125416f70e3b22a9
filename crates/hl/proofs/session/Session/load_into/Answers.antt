use Rattle.std.proofs.Common.{◌≡◌, ◌-◌, ◌<◌, ◌≤◌, length, take, Some, sym, ap, subst, ◌∙◌}
use Rattle.std.specs.Prelude.{None}
use Rattle.std.proofs.lemmas.List.{length-set}
use Rattle.hl_model.specs.declared.view.View.{View}
use Rattle.hl_keeper.specs.Passes.{seen}
use Rattle.hl.specs.Sessions.{SessionState}
use Rattle.hl.proofs.RecordActs.{loads_on}
use Rattle.hl.proofs.RecordLaws.{load_free, loads_see, session_next}
use Rattle.hl.proofs.session.Session.load_into.Goals as goal

pub unreachable-requires : goal.unreachable-requires
unreachable-requires g c =
    let p = c.args.self.now.pass in
    let a = c.args.address in
    let n = length c.args.words.now in
    let head = subst (λ (v : View). v.head ≤ a) c.view-view.ensures c.if-address-view.false in
    let many = subst (λ (v : View). n ≤ v.tail - a) c.view-view.ensures (subst (λ x. n ≤ x) c.saturating_sub.ensures c.if-saturating_sub-words.false) in
    let same = ap (λ (s : SessionState). seen s.pass) c.loop-k.invariant.0 ∙ loads_see c.args.self.now.log.sizes a (take c.loop-k.k c.loop-k.words) p in
    let contrary : None ≡ Some c.in-Err.field-0 = sym (load_free p c.loop-k.self.pass a n c.loop-k.k head many c.loop-k-test.true same) ∙ c.in-Err.ensures.loaded.answer in
    absurd cc

pub loop-k-preserved : goal.loop-k-preserved
loop-k-preserved g c =
    let within = subst (λ n. c.loop-k.k < n) (sym c.loop-k.auto.words) c.loop-k-test.true in (
      session_next c.args.self.now c.loop-k.self c.load.new.self c.args.address c.loop-k.k c.in-Ok.word c.loop-k.words within c.loop-k.invariant.0 c.in-Ok.ensures.loaded.pass,
      length-set c.loop-k.words c.loop-k.k c.in-Ok.word ∙ c.loop-k.auto.words,
      loads_on c.args.self.now c.loop-k.self c.load.new.self c.args.address c.loop-k.k c.in-Ok.word c.loop-k.words within c.loop-k.invariant.2 c.in-Ok.ensures.did,
    )
