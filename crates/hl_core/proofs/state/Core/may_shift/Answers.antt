use Rattle.std.proofs.Common.{rules, sym}
use Rattle.hl_core.proofs.OffsetStands.{shift_told, shift_free}
use Rattle.hl_core.proofs.state.Core.may_shift.Goals as goal

pub returns-then-x-flushed_until : goal.returns-then-x-flushed_until
returns-then-x-flushed_until g c = rw (sym c.self.view_is) (shift_told g.J.Tagged.tag _ c.args.x c.flushed_until.result c.flushed_until.ensures.offset (search rules) (search rules) (search rules))

pub returns : goal.returns
returns g c = rw (sym c.self.view_is) (shift_free g.J.Tagged.tag _ c.args.x c.flushed_until.result c.flushed_until.ensures.offset (search rules) (search rules) (search rules))
