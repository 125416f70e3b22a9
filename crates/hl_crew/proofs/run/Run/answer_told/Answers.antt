use Rattle.std.proofs.Common.{refl, ap, inl, inr}
use Rattle.hl_crew.specs.Flushes.{hold_of}
use Rattle.hl_crew.proofs.PouchLaws.{place_found, place_missing}
use Rattle.hl_crew.proofs.run.Run.answer_told.Goals as goal

pub returns-then-not-holds : goal.returns-then-not-holds
returns-then-not-holds g c =
    let missing = place_missing _ (rw c.page.ensures at c.if-not-holds.ensures) in
    inl (missing, refl, ap (λ counts. hold_of (record c.args.own.now { counts = counts }) c.args.pouch.now) c.count_stranger.ensures)

pub returns : goal.returns
returns g c =
    let found = place_found _ (rw c.page.ensures at c.if-not-holds.ensures) in
    inr ((rw (c.page-2.ensures, c.ok.ensures) at c.answer_held.ensures.held) found.0 found.1)
