use Rattle.std.proofs.Common.{true, refl, inl, inr, arith}
use Rattle.hl_crew.proofs.GoesLaws.{going_more, going_failed, going_handed_on}
use Rattle.hl_crew.proofs.run.Run.answer_acknowledged.Goals as goal

pub loop-preserved : goal.loop-preserved
loop-preserved g c =
    let told = c.in-Ok.acknowledgement in
    going_more _ _ true _ _ _ c.loop.invariant (inr (told.page, told.ok, c.in_ok-answer_told.ensures)) refl

pub returns-in_err-answer_told : goal.returns-in_err-answer_told
returns-in_err-answer_told g c =
    let told = c.in-Ok.acknowledgement in
    going_handed_on _ _ _ _ _ _ _ _ (omega arith) c.loop.invariant
    (inr (told.page, told.ok, c.in_err-answer_told.ensures)) c.from_residual.ensures.1

pub returns-in_default : goal.returns-in_default
returns-in_default g c = going_failed _ _ _ _ _ _ _ (omega arith) c.loop.invariant (inl (refl, refl))
