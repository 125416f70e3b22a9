use Rattle.std.proofs.Common.{◌≡◌, List, sym}
use Rattle.std.proofs.lemmas.Result.{err_from_is_err_and}
use Rattle.hl_model.specs.declared.step.Step.{Step}
use Rattle.hl_keeper.specs.Keepers.{KeeperStands}
use Rattle.hl_keeper.specs.Calls.{stamp_at}
use Rattle.hl_keeper.proofs.CallLaws.{behind_ok, behind_err, ahead_err}
use Rattle.hl_keeper.proofs.keeper.Keeper.known_behind.Goals.{After-at}
use Rattle.hl_keeper.proofs.keeper.Keeper.known_behind.Goals as goal

pub returns-in_err-known : goal.returns-in_err-known
returns-in_err-known g c =
    let p = err_from_is_err_and c.from_residual.result c.from_residual.ensures.1 in
    rw (p.1, p.2) (λ A st. ahead_err c.args.self.now A c.args.pass.now c.in_err-known.field-0.0 (c.in_err-known.ensures A st))

pub returns-then-is_behind : goal.returns-then-is_behind
returns-then-is_behind g c = λ A st. behind_ok c.args.self.now A c.args.pass.now c.in_ok-known.field-0 c.is_behind.result (c.in_ok-known.ensures A st) (c.is_behind.ensures A st) c.if-is_behind.true

stamp_of : (g : _) (c : After-at g) → (A : List Step) → KeeperStands c.args.self.now A → c.at.result ≡ stamp_at c.args.self.now A c.args.pass.now.slot
unfolding stamp_at
stamp_of g c = rw (sym c.self.view_is, sym c.pass.view_is) (λ A st. c.at.ensures A st.core_stands)

pub returns-else-is_behind : goal.returns-else-is_behind
returns-else-is_behind g c =
    λ A st. behind_err c.args.self.now A c.args.pass.now c.in_ok-known.field-0 c.is_behind.result c.at.result (c.in_ok-known.ensures A st) (c.is_behind.ensures A st) c.if-is_behind.false (stamp_of g c A st)
