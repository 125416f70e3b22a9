use Rattle.std.proofs.Common.{rules, sym, arith}
use Rattle.std.proofs.lemmas.Result.{err_from_is_err_and}
use Rattle.hl_core.proofs.SlotStands.{still_stands, acquire_err, acquire_ok, acquire_fits}
use Rattle.hl_core.proofs.state.Core.acquire.Goals as goal

pub returns-in_err-acquire-clause-made : goal.returns-in_err-acquire-clause-made
returns-in_err-acquire-clause-made g c =
    let p = err_from_is_err_and c.from_residual.result c.from_residual.ensures.1 in
    rw (p.1, p.2, sym c.self.view_is) (acquire_err g.J.Tagged.tag _ c.args.t c.in_err-acquire.field-0.0 (g.E.Epochs.table c.acquire.new.self) c.in_err-acquire.ensures.answer c.in_err-acquire.ensures.effect)

pub set-requires : goal.set-requires
set-requires g c = acquire_fits g.J.Tagged.tag _ c.args.t c.self.invariant c.in_ok-acquire.ensures.answer

pub invariant_of-self-2 : goal.invariant_of-self-2
invariant_of-self-2 g c = rw c.set.ensures (still_stands g.J.Tagged.tag _ _ _ _ c.self.invariant (acquire_ok g.J.Tagged.tag _ c.args.t (g.E.Epochs.table c.acquire.new.self) c.current-epoch.result c.present-view.result c.in_ok-acquire.ensures.answer c.in_ok-acquire.ensures.effect c.current-epoch.ensures.value (rw (sym c.self.view_is) at c.present-view.ensures)))

pub returns-clause-made : goal.returns-clause-made
returns-clause-made g c =
    rw (c.set.ensures, sym c.self.view_is) (acquire_ok g.J.Tagged.tag _ c.args.t (g.E.Epochs.table c.acquire.new.self) c.current-epoch.result c.present-view.result c.in_ok-acquire.ensures.answer c.in_ok-acquire.ensures.effect c.current-epoch.ensures.value (rw (sym c.self.view_is) at c.present-view.ensures))
