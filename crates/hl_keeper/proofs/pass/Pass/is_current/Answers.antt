use Rattle.std.proofs.Common.{sym}
use Rattle.hl_keeper.specs.Parts.{pass_of}
use Rattle.hl_keeper.proofs.NewsLaws.{current_new, current_room}
use Rattle.hl_keeper.proofs.pass.Pass.is_current.Goals as goal

pub returns-else-is_current : goal.returns-else-is_current
returns-else-is_current g c =
    let i = c.self.inside in
    rw (sym c.self.view_is) (current_new (pass_of i.own i.touches i.rider) c.args.read_only c.args.head c.args.ended i.own.view c.self.invariant.0 c.is_current.result c.is_current.ensures c.if-is_current.false)

pub returns-then-is_current : goal.returns-then-is_current
returns-then-is_current g c =
    let i = c.self.inside in
    rw (sym c.self.view_is) (current_room (pass_of i.own i.touches i.rider) c.args.read_only c.args.head c.args.ended i.own.view c.self.invariant.0 c.is_current.result c.len.result c.is_current.ensures c.if-is_current.true c.len.ensures.value)
