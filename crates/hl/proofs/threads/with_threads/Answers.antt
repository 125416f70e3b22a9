use Rattle.std.proofs.Common.{rules, ◌≡◌, false, subst}
use Rattle.std.specs.Prelude.{is_some}
use Rattle.hl.specs.Closings.{AreLeft, IsClosed}
use Rattle.hl.specs.Openings.{opened_as}
use Rattle.hl.specs.Threads.{HaveOneTrace}
use Rattle.hl.proofs.OutLaws.{ending_stands, left_without}
use Rattle.hl.proofs.ThreadLaws.{closed_trace}
use Rattle.hl.proofs.threads.with_threads.Goals as goal

pub returns-clause-closed : goal.returns-clause-closed
returns-clause-closed g c =
    let closed = c.in_ok-out.field-0 in
    let told = subst (λ o. IsClosed o (AreLeft g.row.P-Job.Denot (opened_as o) (is_some c.args.duty.cut_above) (g.P.Work.returns c.args.work.now) (g.P.Work.took c.args.work.now) o.riders) closed) c.of_sizes.ensures c.in_ok-out.ensures.closed in
    let none : is_some closed.out.1 ≡ false = search rules in
    record { riders = told.riders; left = left_without _ _ _ _ _ _ closed.out.0.outs.items closed.out.1 _ none told.left; ending = told.ending }

pub returns-clause-stands : goal.returns-clause-stands
returns-clause-stands g c =
    let told = c.in_ok-out.ensures.closed in
    ending_stands c.of_sizes.result c.in_ok-out.field-0.ending told.riders _ told.left.back told.ending

pub returns-clause-one : goal.returns-clause-one
returns-clause-one g c =
    let closed = c.in_ok-out.field-0 in
    let told = c.in_ok-out.ensures.closed in
    let none : is_some closed.out.1 ≡ false = search rules in
    subst (λ o. HaveOneTrace g.row.P-Job.Denot o.params (g.P.Work.returns c.args.work.now) (g.P.Work.took c.args.work.now) closed.out.0.outs closed.ending) c.of_sizes.ensures
    (closed_trace g.row.P-Job.Denot _ _ _ _ told.riders closed.out.0.outs closed.ending c.in_ok-out.ensures.sizes (left_without _ _ _ _ _ _ closed.out.0.outs.items closed.out.1 _ none told.left) told.ending)
