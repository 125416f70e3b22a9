use Rattle.std.proofs.Common.{rules, ◌≡◌, Ok, subst}
use Rattle.hl_action.specs.declared.no_job.NoJob.{NoJob}
use Rattle.hl.specs.Devices.{on_memory}
use Rattle.hl.specs.Threads.{HaveOneTrace}
use Rattle.example_records.specs.declared.keeping.Kept.{Kept}
use Rattle.example_records.specs.Records.{returns_report, AreScanned}
use Rattle.example_records.proofs.KeptLaws.{records_kept}
use Rattle.example_records.proofs.keeping.keep.Goals as goal

pub returns : goal.returns
returns g c =
    let closed = c.in_ok-closed.closed in
    let sizes = g.S.HasSizes.sizes_of c.args.storage.opening.params in
    let reports = closed.out.outs in
    let ending = c.in-Ok.ending in
    let device = closed.out.device in
    let ending_is : closed.ending ≡ Ok ending = search rules in
    let one = subst (λ ending. HaveOneTrace NoJob sizes (λ _. returns_report) (on_memory device) reports ending) ending_is c.in_ok-closed.ensures.one in
    let kept : Kept = record { reports = reports; found = c.in_ok-found.found; device = device; ending = ending } in
    rw c.in-Ok.ending-is (records_kept sizes kept c.in_ok-words.words.items one c.threads_append.ensures c.records_are_found_by.ensures c.records_are_whole.ensures c.records_are_scanned.ensures (rw (c.sizes-sizes.ensures, c.in-Ok.ending-is) at c.in_ok-words.ensures.left) (subst (λ words. AreScanned words c.in_ok-found.found.items) c.deref-2.ensures.value c.in_ok-found.ensures.scanned))
