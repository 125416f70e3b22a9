use Rattle.std.proofs.Common.{rules, ◌≡◌, subst}
use Rattle.std.specs.Prelude.{Some, is_some}
use Rattle.hl.specs.Closings.{AreLeft, IsClosed}
use Rattle.hl.specs.Devices.{on_memory}
use Rattle.hl.specs.Openings.{opened_as}
use Rattle.hl.specs.Threads.{HaveOneTrace}
use Rattle.hl.proofs.OutLaws.{ending_stands, left_with}
use Rattle.hl.proofs.ThreadLaws.{closed_trace}
use Rattle.hl.proofs.memory.with_memory.Goals as goal

pub returns-clause-closed : goal.returns-clause-closed
returns-clause-closed g c =
    let closed = c.in_ok-closed.closed in
    let told = subst (λ o. IsClosed o (AreLeft g.row.P-Job.Denot (opened_as o) (is_some c.args.duty.cut_above) (g.P.Work.returns c.args.work.now) (g.P.Work.took c.args.work.now) o.riders) closed) c.of_sizes.ensures c.in_ok-closed.ensures.closed in
    let is : closed.out.1 ≡ Some c.unwrap-device.result = search rules in
    record { riders = told.riders; left = left_with _ _ _ _ _ closed.out.0.outs.items closed.out.1 c.unwrap-device.result _ is told.left; ending = told.ending }

pub returns-clause-stands : goal.returns-clause-stands
returns-clause-stands g c =
    let told = c.in_ok-closed.ensures.closed in
    ending_stands c.of_sizes.result c.in_ok-closed.closed.ending told.riders _ told.left.back told.ending

pub returns-clause-one : goal.returns-clause-one
returns-clause-one g c =
    let closed = c.in_ok-closed.closed in
    let told = c.in_ok-closed.ensures.closed in
    let is : closed.out.1 ≡ Some c.unwrap-device.result = search rules in
    subst (λ o. HaveOneTrace g.row.P-Job.Denot o.params (g.P.Work.returns c.args.work.now) (on_memory c.unwrap-device.result) closed.out.0.outs closed.ending) c.of_sizes.ensures
    (closed_trace g.row.P-Job.Denot _ _ _ _ told.riders closed.out.0.outs closed.ending c.in_ok-closed.ensures.sizes (left_with _ _ _ _ _ closed.out.0.outs.items closed.out.1 c.unwrap-device.result _ is told.left) told.ending)
