use Rattle.std.proofs.Common.{sym}
use Rattle.std.proofs.lemmas.Result.{err_from_is_err_and}
use Rattle.hl_core.proofs.OffsetStands.{raise_err, raise_ok}
use Rattle.hl_core.proofs.Refusals.{call_refuses}
use Rattle.hl_core.proofs.SlotStands.{still_stands}
use Rattle.hl_core.proofs.state.Core.raise.Goals as goal

pub returns-in_err-raise-clause-made : goal.returns-in_err-raise-clause-made
returns-in_err-raise-clause-made g c =
    let p = err_from_is_err_and c.from_residual.result c.from_residual.ensures.1 in
    rw (p.1, p.2, sym c.self.view_is) (raise_err g.J.Tagged.tag _ c.args.x c.in_err-raise.field-0.0 c.raise.new.self c.in_err-raise.ensures.answer c.in_err-raise.ensures.effect)

pub invariant_of-self-2 : goal.invariant_of-self-2
invariant_of-self-2 g c = still_stands g.J.Tagged.tag _ _ _ _ c.self.invariant (raise_ok g.J.Tagged.tag _ c.args.x c.raise.new.self c.in_ok-raise.ensures.answer c.in_ok-raise.ensures.effect)

pub returns-clause-made : goal.returns-clause-made
returns-clause-made g c = rw (sym c.self.view_is) (raise_ok g.J.Tagged.tag _ c.args.x c.raise.new.self c.in_ok-raise.ensures.answer c.in_ok-raise.ensures.effect)

pub invariant_of-self : goal.invariant_of-self
invariant_of-self g c = rw (call_refuses _ c.in_err-raise.field-0.0 _ _ _ c.raise.new.self c.in_err-raise.ensures.answer c.in_err-raise.ensures.effect).1 c.self.invariant

pub returns-in_err-raise-clause-refused : goal.returns-in_err-raise-clause-refused
returns-in_err-raise-clause-refused g c =
    let p = err_from_is_err_and c.from_residual.result c.from_residual.ensures.1 in
    rw (p.1, (call_refuses _ c.in_err-raise.field-0.0 _ _ _ c.raise.new.self c.in_err-raise.ensures.answer c.in_err-raise.ensures.effect).1) c.self.view_is
