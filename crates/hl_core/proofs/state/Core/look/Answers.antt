use Rattle.std.proofs.Common.{rules, sym, arith}
use Rattle.std.proofs.lemmas.Result.{err_from_is_err_and}
use Rattle.hl_model.specs.Views.{view_of}
use Rattle.hl_core.proofs.LookStands.{refused_by, look_ok, look_fits}
use Rattle.hl_core.proofs.SlotStands.{still_stands}
use Rattle.hl_core.proofs.state.Core.look.Goals as goal

pub returns-in_err-seen-clause-made : goal.returns-in_err-seen-clause-made
returns-in_err-seen-clause-made g c =
    let p = err_from_is_err_and c.from_residual.result c.from_residual.ensures.1 in
    rw (p.1, p.2) (refused_by g.J.Tagged.tag _ _ c.in_err-seen.field-0.0 (view_of c.args.self.now.sizes c.args.t) c.in_err-seen.ensures)

pub set-requires : goal.set-requires
set-requires g c = look_fits g.J.Tagged.tag _ c.args.t c.args.read_only c.args.head c.in_ok-seen.seen c.self.invariant (rw (sym c.self.view_is) at c.in_ok-seen.ensures)

pub invariant_of-self : goal.invariant_of-self
invariant_of-self g c = rw c.set.ensures (still_stands g.J.Tagged.tag _ _ _ _ c.self.invariant (look_ok g.J.Tagged.tag _ c.args.t c.args.read_only c.args.head c.in_ok-seen.seen (rw (sym c.self.view_is) at c.in_ok-seen.ensures)))

pub returns-clause-made : goal.returns-clause-made
returns-clause-made g c = rw (c.set.ensures, sym c.self.view_is) (look_ok g.J.Tagged.tag _ c.args.t c.args.read_only c.args.head c.in_ok-seen.seen (rw (sym c.self.view_is) at c.in_ok-seen.ensures))
