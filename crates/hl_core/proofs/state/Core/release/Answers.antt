use Rattle.std.proofs.Common.{rules, sym, arith}
use Rattle.std.proofs.lemmas.Result.{err_from_is_err_and}
use Rattle.hl_core.proofs.SlotStands.{still_stands, release_err, release_ok, protected_fits}
use Rattle.hl_core.proofs.state.Core.release.Goals as goal

pub returns-in_err-release-clause-made : goal.returns-in_err-release-clause-made
returns-in_err-release-clause-made g c =
    let p = err_from_is_err_and c.from_residual.result c.from_residual.ensures.1 in
    rw (p.1, p.2, sym c.self.view_is) (release_err g.J.Tagged.tag _ c.args.t c.in_err-release.field-0.0 (g.E.Epochs.table c.release.new.self) c.in_err-release.ensures.answer c.in_err-release.ensures.effect)

pub set-requires : goal.set-requires
set-requires g c = protected_fits g.J.Tagged.tag _ c.args.t c.self.invariant c.in_ok-release.ensures.answer

pub invariant_of-self-2 : goal.invariant_of-self-2
invariant_of-self-2 g c = rw c.set.ensures (still_stands g.J.Tagged.tag _ _ _ _ c.self.invariant (release_ok g.J.Tagged.tag _ c.args.t (g.E.Epochs.table c.release.new.self) c.in_ok-release.ensures.answer c.in_ok-release.ensures.effect))

pub returns-clause-made : goal.returns-clause-made
returns-clause-made g c =
    rw (c.set.ensures, sym c.self.view_is) (release_ok g.J.Tagged.tag _ c.args.t (g.E.Epochs.table c.release.new.self) c.in_ok-release.ensures.answer c.in_ok-release.ensures.effect)
