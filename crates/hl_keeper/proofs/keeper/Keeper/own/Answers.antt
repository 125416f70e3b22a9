use Rattle.std.proofs.Common.{sym}
use Rattle.hl_keeper.specs.Calls.{origin_fault}
use Rattle.hl_keeper.proofs.keeper.Keeper.own.Goals as goal

pub returns : goal.returns
unfolding origin_fault
returns g c = rw (sym c.self.view_is) c.is_of.ensures
