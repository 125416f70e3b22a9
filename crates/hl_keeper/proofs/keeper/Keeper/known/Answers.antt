use Rattle.std.proofs.Common.{sym}
use Rattle.hl_keeper.specs.Calls.{stranger_fault, is_known, stamp_at}
use Rattle.hl_keeper.proofs.keeper.Keeper.known.Goals as goal

pub returns : goal.returns
unfolding stranger_fault is_known stamp_at
returns g c = rw (sym c.self.view_is, sym c.pass.view_is) (λ A st. c.known.ensures A st.core_stands)
