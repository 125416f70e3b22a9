use Rattle.std.proofs.Common.{rules, sym}
use Rattle.hl_core.proofs.AskStands.{put_fits, window_is, bump_full, bump_spent, bump_ok}
use Rattle.hl_core.proofs.SlotStands.{still_stands}
use Rattle.hl_core.proofs.state.Core.bump.Goals as goal

pub returns-then-not-has_room-clause-made : goal.returns-then-not-has_room-clause-made
returns-then-not-has_room-clause-made g c = rw (sym c.self.view_is) (bump_full g.J.Tagged.tag _ c.args.ask (search rules))

pub end_epoch-requires : goal.end_epoch-requires
end_epoch-requires g c = window_is g.J.Tagged.tag _ c.self.invariant

pub returns-in-Err-clause-made : goal.returns-in-Err-clause-made
returns-in-Err-clause-made g c =
    rw (sym c.self.view_is) (bump_spent g.J.Tagged.tag _ c.args.ask c.in-Err.fault (g.E.Epochs.table c.end_epoch.new.table) (search rules) c.in-Err.ensures.answer c.in-Err.ensures.effect)

pub put-requires : goal.put-requires
put-requires g c = put_fits g.J.Tagged.tag _ c.in-Ok.ticket c.self.invariant c.in-Ok.ensures.answer

pub invariant_of-self-2 : goal.invariant_of-self-2
invariant_of-self-2 g c = still_stands g.J.Tagged.tag _ _ _ _ c.self.invariant (bump_ok g.J.Tagged.tag _ c.args.ask c.in-Ok.ticket (g.E.Epochs.table c.end_epoch.new.table) c.stored.result c.put.new.self (search rules) c.in-Ok.ensures.answer c.in-Ok.ensures.effect c.stored.ensures c.put.ensures.lists c.put.ensures.valid)

pub returns-clause-made : goal.returns-clause-made
returns-clause-made g c =
    rw (sym c.self.view_is) (bump_ok g.J.Tagged.tag _ c.args.ask c.in-Ok.ticket (g.E.Epochs.table c.end_epoch.new.table) c.stored.result c.put.new.self (search rules) c.in-Ok.ensures.answer c.in-Ok.ensures.effect c.stored.ensures c.put.ensures.lists c.put.ensures.valid)
