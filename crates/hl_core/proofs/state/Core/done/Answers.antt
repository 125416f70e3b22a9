use Rattle.std.proofs.Common.{sym}
use Rattle.std.proofs.lemmas.Result.{err_from_is_err_and}
use Rattle.hl_core.proofs.DoneStands.{done_user, done_settle, done_close, settle_fits, close_fits, close_whole, done_err}
use Rattle.hl_core.proofs.SlotStands.{still_stands}
use Rattle.hl_core.proofs.state.Core.done.Goals as goal

pub returns-in_err-tag-clause-made : goal.returns-in_err-tag-clause-made
returns-in_err-tag-clause-made g c =
    let p = err_from_is_err_and c.from_residual.result c.from_residual.ensures.1 in
    rw (p.1, p.2, sym c.self.view_is) (done_err g.J.Tagged.tag _ c.args.ticket c.in_err-tag.field-0.0 c.done.new.self c.in_err-tag.ensures.answer c.in_err-tag.ensures.refused)

pub settle-requires : goal.settle-requires
settle-requires g c = settle_fits g.J.Tagged.tag _ c.args.ticket c.in-Settle.x c.in_ok-tag.field-0 c.self.invariant c.in-Settle.is c.in_ok-tag.ensures.answer

pub close-requires-clause-whole : goal.close-requires-clause-whole
close-requires-clause-whole g c = close_whole g.J.Tagged.tag _ c.args.ticket c.in-Close.x c.in_ok-tag.field-0 c.self.invariant c.in-Close.is c.in_ok-tag.ensures.answer

pub close-requires-clause-most : goal.close-requires-clause-most
close-requires-clause-most g c = close_fits g.J.Tagged.tag _ c.args.ticket c.in-Close.x c.in_ok-tag.field-0 c.self.invariant c.in-Close.is c.in_ok-tag.ensures.answer

pub invariant_of-self-in-User : goal.invariant_of-self-in-User
invariant_of-self-in-User g c = still_stands g.J.Tagged.tag _ _ _ _ c.self.invariant (done_user g.J.Tagged.tag _ c.args.ticket c.in-User.tag c.in_ok-tag.field-0 c.done.new.self c.in-User.is c.in_ok-tag.ensures.answer c.in_ok-tag.ensures.lists c.done.ensures.valid)

pub returns-in-User-clause-made : goal.returns-in-User-clause-made
returns-in-User-clause-made g c = rw (sym c.self.view_is) (done_user g.J.Tagged.tag _ c.args.ticket c.in-User.tag c.in_ok-tag.field-0 c.done.new.self c.in-User.is c.in_ok-tag.ensures.answer c.in_ok-tag.ensures.lists c.done.ensures.valid)

pub invariant_of-self-in-Settle : goal.invariant_of-self-in-Settle
invariant_of-self-in-Settle g c = still_stands g.J.Tagged.tag _ _ _ _ c.self.invariant (done_settle g.J.Tagged.tag _ c.args.ticket c.in-Settle.x c.in_ok-tag.field-0 c.done.new.self c.settle.new.self c.settle.result c.in-Settle.is c.in_ok-tag.ensures.answer c.in_ok-tag.ensures.lists c.done.ensures.valid c.settle.ensures.effect c.settle.ensures.answer)

pub returns-in-Settle-clause-made : goal.returns-in-Settle-clause-made
returns-in-Settle-clause-made g c = rw (sym c.self.view_is) (done_settle g.J.Tagged.tag _ c.args.ticket c.in-Settle.x c.in_ok-tag.field-0 c.done.new.self c.settle.new.self c.settle.result c.in-Settle.is c.in_ok-tag.ensures.answer c.in_ok-tag.ensures.lists c.done.ensures.valid c.settle.ensures.effect c.settle.ensures.answer)

pub invariant_of-self-in-Close : goal.invariant_of-self-in-Close
invariant_of-self-in-Close g c = still_stands g.J.Tagged.tag _ _ _ _ c.self.invariant (done_close g.J.Tagged.tag _ c.args.ticket c.in-Close.x c.in_ok-tag.field-0 c.done.new.self c.close.new.self c.close.result c.in-Close.is c.in_ok-tag.ensures.answer c.in_ok-tag.ensures.lists c.done.ensures.valid c.close.ensures.effect c.close.ensures.answer)

pub returns-in-Close-clause-made : goal.returns-in-Close-clause-made
returns-in-Close-clause-made g c = rw (sym c.self.view_is) (done_close g.J.Tagged.tag _ c.args.ticket c.in-Close.x c.in_ok-tag.field-0 c.done.new.self c.close.new.self c.close.result c.in-Close.is c.in_ok-tag.ensures.answer c.in_ok-tag.ensures.lists c.done.ensures.valid c.close.ensures.effect c.close.ensures.answer)
