use Rattle.std.proofs.Common.{refl, sym}
use Rattle.hl_keeper.proofs.KeeperLaws.{base_sizes, was_cut, kept_on}
use Rattle.hl_keeper.proofs.keeper.Keeper.cut.Goals as goal

pub cut-requires : goal.cut-requires
cut-requires g c = base_sizes _ c.self.invariant.of.standing.0 c.self.invariant.of.standing.1

pub invariant_of-self : goal.invariant_of-self
invariant_of-self g c =
    let at = c.self.invariant.of.standing in
    let e = c.cut.ensures in
    kept_on _ _ _ _ at.0 _ _ c.self.invariant (was_cut _ at.0 c.cut.new.self at.1 (e.base at.0 at.1.core_stands) e.cut e.steps) refl refl refl

pub returns-clause-standing : goal.returns-clause-standing
returns-clause-standing g c =
    let e = c.cut.ensures in
    rw (sym c.self.view_is) (λ A st. was_cut _ A c.cut.new.self st (e.base A st.core_stands) e.cut e.steps)
