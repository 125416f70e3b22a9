use Rattle.std.proofs.Common.{◌<◌, ◌+◌, true, refl, arith}
use Rattle.hl_crew.specs.Pouches.{load_count}
use Rattle.hl_crew.proofs.PouchLaws.{some_held}
use Rattle.hl_crew.proofs.GoesLaws.{going_first, going_more, going_all, going_handed_on}
use Rattle.hl_crew.proofs.run.Run.answer_others.Goals as goal

pub loop-page-init : goal.loop-page-init
loop-page-init g c = (0, omega arith, going_first _ _)

pub loop-page-preserved : goal.loop-page-preserved
loop-page-preserved g c =
    let before = c.loop-page.invariant in
    let told = c.in_ok-answer_held.ensures in
    let place = c.in-Some.ensures.held in
    (before.0 + 1, omega (arith, before.1, told.fewer), going_more _ _ true _ _ _ before.2 (c.in-Some.page, told.held place.0 place.1) refl)

pub returns-in_err-answer_held-clause-fails : goal.returns-in_err-answer_held-clause-fails
returns-in_err-answer_held-clause-fails g c =
    let place = c.in-Some.ensures.held in
    let some = some_held c.in-Some.page place.0 c.loop-page.pouch place.1 in
    let fewer : c.loop-page.invariant.0 < load_count c.args.pouch.now = omega (arith, c.loop-page.invariant.1, some) in
    going_handed_on _ _ _ _ _ _ _ _ fewer c.loop-page.invariant.2 (c.in-Some.page, c.in_err-answer_held.ensures.held place.0 place.1) c.from_residual.ensures.1

pub returns : goal.returns
returns g c =
    let before = c.loop-page.invariant in
    let none = c.in_default.ensures.none in
    record { none = none; fails = going_all _ _ _ _ _ (omega (arith, before.1, none)) before.2 }
