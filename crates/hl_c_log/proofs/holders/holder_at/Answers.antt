use Rattle.std.proofs.Common.{rules}
use Rattle.hl_c_log.proofs.LogCalls.{holder_is}
use Rattle.hl_c_log.proofs.holders.holder_at.Goals as goal

pub returns : goal.returns
returns c = λ A stands. holder_is _ A _ _ _ _ c.told.ensures (search (rules, c.holders-ticket.ensures.row A stands)) (c.holders-ticket.ensures.ticket A stands)
