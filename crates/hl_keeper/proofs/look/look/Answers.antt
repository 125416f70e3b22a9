use Rattle.std.proofs.Common.{refl, sym, ap, ◌∙◌, ◌++◌}
use Rattle.std.specs.Prelude.{Ok}
use Rattle.hl_laws.proofs.NoFaultLaws.{unless_ok}
use Rattle.hl_keeper.specs.Passes.{touch_fault}
use Rattle.hl_keeper.specs.Parts.{pass_of}
use Rattle.hl_keeper.proofs.PassLaws.{look_is, look_touches, look_made-some, look_made-none, looks_on}
use Rattle.hl_keeper.proofs.look.look.Goals as goal

pub returns-then-not-rises-clause-pass : goal.returns-then-not-rises-clause-pass
returns-then-not-rises-clause-pass g c =
    let p = pass_of c.pass.inside.own c.pass.inside.touches c.pass.inside.rider in
    look_is _ c.args.pass.now _ _ c.load_offset-read_only.new.rider c.load_offset-head.new.rider c.pass.inside.touches c.in_ok-may_touch.field-0 c.pass.view_is c.in_ok-may_touch.ensures.answer c.load_offset-read_only.ensures.view c.load_offset-head.ensures.view
    (look_made-none p c.pass.inside.own.view _ _ c.rises.result c.pass.invariant.0 c.rises.ensures c.if-not-rises.true)

pub invariant_of-pass-2 : goal.invariant_of-pass-2
invariant_of-pass-2 g c =
    let p = pass_of c.pass.inside.own c.pass.inside.touches c.pass.inside.rider in
    look_touches p c.pass.inside.own.view c.raised-view.result _ _ c.push.new.self c.pass.invariant.0 c.pass.invariant.1 c.raised-view.ensures c.push.ensures

pub returns-clause-answer : goal.returns-clause-answer
returns-clause-answer g c =
    let p = pass_of c.pass.inside.own c.pass.inside.touches c.pass.inside.rider in
    let both = look_touches p c.pass.inside.own.view c.raised-view.result _ _ c.push.new.self c.pass.invariant.0 c.pass.invariant.1 c.raised-view.ensures c.push.ensures in
    rw (unless_ok (touch_fault c.args.pass.now) c.in_ok-may_touch.field-0 (tt {0}) c.in_ok-may_touch.ensures.answer).0 (ap (λ v. Ok v) both.0)

pub returns-clause-pass : goal.returns-clause-pass
returns-clause-pass g c =
    let p = pass_of c.pass.inside.own c.pass.inside.touches c.pass.inside.rider in
    look_is _ c.args.pass.now _ _ c.load_offset-read_only.new.rider c.load_offset-head.new.rider c.push.new.self c.in_ok-may_touch.field-0 c.pass.view_is c.in_ok-may_touch.ensures.answer c.load_offset-read_only.ensures.view c.load_offset-head.ensures.view
    (c.push.ensures ∙ ap (λ z. c.pass.inside.touches ++ z) (look_made-some p c.pass.inside.own.view c.raised-view.result _ _ c.rises.result c.pass.invariant.0 c.rises.ensures c.if-not-rises.false c.raised-view.ensures))

pub returns-then-not-rises-clause-rises : goal.returns-then-not-rises-clause-rises
returns-then-not-rises-clause-rises g c =
    rw (sym c.pass.view_is) (looks_on _ _ _ _ c.load_offset-read_only.new.rider c.load_offset-head.new.rider c.load_offset-read_only.ensures.view c.load_offset-head.ensures.view refl c.load_offset-read_only.ensures.rises c.load_offset-head.ensures.rises)

pub returns-clause-rises : goal.returns-clause-rises
returns-clause-rises g c =
    rw (sym c.pass.view_is) (looks_on _ _ _ _ c.load_offset-read_only.new.rider c.load_offset-head.new.rider c.load_offset-read_only.ensures.view c.load_offset-head.ensures.view refl c.load_offset-read_only.ensures.rises c.load_offset-head.ensures.rises)
