use Rattle.std.proofs.Common.{rules, ◌≡◌, [], ◌∷◌, Ok, subst}
use Rattle.hl_action.specs.declared.no_job.NoJob.{NoJob}
use Rattle.hl.specs.Devices.{on_memory}
use Rattle.hl.specs.Left.{IsLeft}
use Rattle.hl.specs.Threads.{HaveOneTrace}
use Rattle.example_counters.specs.declared.Counted.{Counted}
use Rattle.example_counters.specs.Counters.{returns_sums}
use Rattle.example_counters.proofs.CountedLaws.{counted, one_of_four}
use Rattle.example_counters.proofs.count.Goals as goal

pub returns-clause-counted : goal.returns-clause-counted
returns-clause-counted g c =
    let closed = c.in_ok-closed.closed in
    let sizes = g.S.HasSizes.sizes_of c.args.opening.params in
    let outs = closed.out.outs in
    let ending = c.in-Ok.ending in
    let device = closed.out.device in
    let ending_is : closed.ending ≡ Ok ending = search rules in
    let one = subst (λ ending. HaveOneTrace NoJob sizes (λ i. returns_sums) (on_memory device) outs ending) ending_is c.in_ok-closed.ensures.one in
    let first = c.word_left.result in
    let second = c.word_left-2.result in
    let third = c.word_left-3.result in
    let fourth = c.word_left-4.result in
    let left : Counted = record { outs = outs; sums = first ∷ second ∷ third ∷ fourth ∷ []; device = device; ending = ending } in
    let reads = one_of_four (IsLeft sizes device ending) first second third fourth
    (rw (c.sizes-sizes.ensures, c.in-Ok.ending-is) at c.word_left.ensures.left)
    (rw (c.sizes-sizes.ensures, c.in-Ok.ending-is) at c.word_left-2.ensures.left)
    (rw (c.sizes-sizes.ensures, c.in-Ok.ending-is) at c.word_left-3.ensures.left)
    (rw (c.sizes-sizes.ensures, c.in-Ok.ending-is) at c.word_left-4.ensures.left) in
    rw c.in-Ok.ending-is (counted sizes left c.counters_end_as_sums.ensures one reads)
