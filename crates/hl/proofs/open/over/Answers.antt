use Rattle.std.proofs.Common.{sym, subst}
use Rattle.std.specs.List.{AllByRecursion}
use Rattle.hl_traces.specs.Traces.{RiderTraces}
use Rattle.hl_traces.proofs.TraceLaws.{new_traces}
use Rattle.hl.proofs.OutLaws.{news_all}
use Rattle.hl.proofs.open.over.Goals as goal

-- riders of a log that was just opened are new
pub run-out-requires-clause-enter : goal.run-out-requires-clause-enter
run-out-requires-clause-enter g c =
    let sizes = c.in-Ok.opened.0.sizes in
    subst (AllByRecursion (RiderTraces sizes)) (sym c.in-Ok.ensures.riders) (news_all (RiderTraces sizes) (new_traces sizes) c.args.seed.riders)
