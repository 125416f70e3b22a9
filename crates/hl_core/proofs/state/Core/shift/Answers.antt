use Rattle.std.proofs.Common.{sym}
use Rattle.std.proofs.lemmas.Result.{err_from_is_err_and}
use Rattle.hl_core.proofs.OffsetStands.{flushed_fits, shift_err, shift_ok}
use Rattle.hl_core.proofs.Refusals.{call_refuses}
use Rattle.hl_core.proofs.SlotStands.{still_stands}
use Rattle.hl_core.proofs.state.Core.shift.Goals as goal

pub shift-requires : goal.shift-requires
shift-requires g c = flushed_fits g.J.Tagged.tag _ c.flushed_until-flushed.result c.self.invariant c.flushed_until-flushed.ensures.offset

pub returns-in_err-shift-clause-made : goal.returns-in_err-shift-clause-made
returns-in_err-shift-clause-made g c =
    let p = err_from_is_err_and c.from_residual.result c.from_residual.ensures.1 in
    rw (p.1, p.2, sym c.self.view_is) (shift_err g.J.Tagged.tag _ c.args.x c.flushed_until-flushed.result c.in_err-shift.field-0.0 c.shift.new.self c.flushed_until-flushed.ensures.offset c.in_err-shift.ensures.answer c.in_err-shift.ensures.effect)

pub invariant_of-self-2 : goal.invariant_of-self-2
invariant_of-self-2 g c = still_stands g.J.Tagged.tag _ _ _ _ c.self.invariant (shift_ok g.J.Tagged.tag _ c.args.x c.flushed_until-flushed.result c.shift.new.self c.flushed_until-flushed.ensures.offset c.in_ok-shift.ensures.answer c.in_ok-shift.ensures.effect)

pub returns-clause-made : goal.returns-clause-made
returns-clause-made g c = rw (sym c.self.view_is) (shift_ok g.J.Tagged.tag _ c.args.x c.flushed_until-flushed.result c.shift.new.self c.flushed_until-flushed.ensures.offset c.in_ok-shift.ensures.answer c.in_ok-shift.ensures.effect)

pub invariant_of-self : goal.invariant_of-self
invariant_of-self g c = rw (call_refuses _ c.in_err-shift.field-0.0 _ _ _ c.shift.new.self c.in_err-shift.ensures.answer c.in_err-shift.ensures.effect).1 c.self.invariant

pub returns-in_err-shift-clause-refused : goal.returns-in_err-shift-clause-refused
returns-in_err-shift-clause-refused g c =
    let p = err_from_is_err_and c.from_residual.result c.from_residual.ensures.1 in
    rw (p.1, (call_refuses _ c.in_err-shift.field-0.0 _ _ _ c.shift.new.self c.in_err-shift.ensures.answer c.in_err-shift.ensures.effect).1) c.self.view_is
