use Rattle.std.proofs.Common.{sym}
use Rattle.std.proofs.lemmas.Result.{err_from_is_err_and}
use Rattle.hl_core.proofs.SlotStands.{still_stands}
use Rattle.hl_core.proofs.PageStands.{clean_done_err, clean_done_ok}
use Rattle.hl_core.proofs.state.Core.clean_done.Goals as goal

pub returns-in_err-clean_done-clause-made : goal.returns-in_err-clean_done-clause-made
returns-in_err-clean_done-clause-made g c =
    let p = err_from_is_err_and c.from_residual.result c.from_residual.ensures.1 in
    rw (p.1, p.2, sym c.self.view_is) (clean_done_err g.J.Tagged.tag _ c.args.page c.in_err-clean_done.field-0.0 c.clean_done.new.self.pages c.in_err-clean_done.ensures.answer c.in_err-clean_done.ensures.pages)

pub invariant_of-self-2 : goal.invariant_of-self-2
invariant_of-self-2 g c = still_stands g.J.Tagged.tag _ _ _ _ c.self.invariant (clean_done_ok g.J.Tagged.tag _ c.args.page c.clean_done.new.self.pages c.in_ok-clean_done.ensures.answer c.in_ok-clean_done.ensures.pages)

pub returns-clause-made : goal.returns-clause-made
returns-clause-made g c =
    rw (sym c.self.view_is) (clean_done_ok g.J.Tagged.tag _ c.args.page c.clean_done.new.self.pages c.in_ok-clean_done.ensures.answer c.in_ok-clean_done.ensures.pages)
