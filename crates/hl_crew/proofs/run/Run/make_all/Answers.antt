use Rattle.std.proofs.Common.{true, refl, arith}
use Rattle.std.proofs.lemmas.Option.{slice_get-get_or}
use Rattle.hl_crew.proofs.GoesLaws.{going_more, going_handed_on}
use Rattle.hl_crew.proofs.run.Run.make_all.Goals as goal

pub loop-step-preserved : goal.loop-step-preserved
loop-step-preserved g c =
    going_more _ _ true _ _ _ c.loop-step.invariant (_, slice_get-get_or _ _ _ c.loop-step-test.true, c.in_ok-make_if_wanted.ensures) refl

pub returns-in_err-make_if_wanted : goal.returns-in_err-make_if_wanted
returns-in_err-make_if_wanted g c =
    going_handed_on _ _ _ _ _ _ _ _ (omega (arith, c.loop-step-test.true)) c.loop-step.invariant (_, slice_get-get_or _ _ _ c.loop-step-test.true, c.in_err-make_if_wanted.ensures) c.from_residual.ensures.1
