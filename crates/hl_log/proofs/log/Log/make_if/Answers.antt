use Rattle.std.proofs.Common.{refl, ap, ◌∙◌, Some}
use Rattle.std.proofs.lemmas.Result.{err_from_is_err_and}
use Rattle.hl_log.specs.Seals.{fault_in}
use Rattle.hl_log.proofs.SealLaws.{goes_nowhere, goes_once}
use Rattle.hl_log.proofs.log.Log.make_if.Goals as goal

pub returns-then-not-is_due-clause-made : goal.returns-then-not-is_due-clause-made
returns-then-not-is_due-clause-made c = λ A at. goes_nowhere _ A c.args.is_due c.args.step.now _ c.if-not-is_due.true refl at

pub returns-in_err-reply-clause-made : goal.returns-in_err-reply-clause-made
returns-in_err-reply-clause-made c =
    let q = err_from_is_err_and c.from_residual.result c.from_residual.ensures.1 in
    λ A at. goes_once _ _ A c.args.is_due c.args.step.now _ c.from_residual.result c.if-not-is_due.false c.in_err-reply.ensures.made (ap fault_in q.1 ∙ ap (λ f. Some f) q.2) at

pub returns-clause-made : goal.returns-clause-made
returns-clause-made c = λ A at. goes_once _ _ A c.args.is_due c.args.step.now _ _ c.if-not-is_due.false c.in_ok-reply.ensures.made refl at
