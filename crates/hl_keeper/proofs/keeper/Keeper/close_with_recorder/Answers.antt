use Rattle.std.proofs.Common.{rules, sym}
use Rattle.hl_keeper.proofs.keeper.Keeper.close_with_recorder.Goals as goal

pub returns-in-Ok-clause-ending : goal.returns-in-Ok-clause-ending
returns-in-Ok-clause-ending g c =
    let snapshot = c.snapshot.ensures in
    record { kept = search rules; quantities = rw (sym c.self.view_is) (λ A st. snapshot A st.core_stands); sum = search rules; words = search rules; cells = search rules; all = search rules }
