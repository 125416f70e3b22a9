use Rattle.std.proofs.Common.{take, ap, ◌∙◌, arith, subst}
use Rattle.std.proofs.lemmas.List.{take_all}
use Rattle.hl_model.proofs.Placed.{take_fewer}
use Rattle.hl_drain.specs.Lists.{Lists, IsDrain}
use Rattle.hl_drain.proofs.drain.Drain.taken.Goals as goal

pub returns-clause-list : goal.returns-clause-list
returns-clause-list g c =
    let row = c.as_slice-taken.result.now in
    let told = c.as_slice-taken.ensures ∙ ap (λ (l : Lists g.row.J.Denot). l.taken) c.self.view_is in
    c.loop-waiting.invariant ∙ take_all c.loop-waiting.waiting-index (take c.min.result row) c.loop-waiting-test.false ∙ take_fewer row c.min.result 64 c.min.ensures ∙ ap (λ xs. take 64 xs) told

pub returns-clause-all : goal.returns-clause-all
returns-clause-all g c = λ few.
    let kept = subst (λ (l : Lists g.row.J.Denot). IsDrain l) c.self.view_is c.self.invariant.lists in
    returns-clause-list g c ∙ take_all 64 c.args.self.now.taken (omega (arith, few, kept.within_limit))
