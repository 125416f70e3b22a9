use Rattle.std.proofs.Common.{rules}
use Rattle.std.specs.Prelude.{is_some}
use denote.Param.Send.{param_send, param_sync}
use Rattle.hl_traces.specs.Traces.{RiderTraces}
use Rattle.hl.proofs.OutLaws.{place_holds, work_returned}
use Rattle.hl.proofs.shared.Shared.work_each.Goals as goal

pub for_each_mut-requires-clause-accepts : goal.for_each_mut-requires-clause-accepts
for_each_mut-requires-clause-accepts g c κs within =
    λ i place inside is. (place_holds (RiderTraces c.args.log.now.sizes) c.args.places.now c.requires i place.now inside is, search (rules, c.type_bounds, param_send, param_sync))

pub returns : goal.returns
returns g c =
    work_returned _ c.args.log.now (is_some c.args.self.now.duty.cut_above) (g.P.Work.returns c.args.self.now.work.now) _ _ c.args.places.now c.for_each_mut.new.s
    (search rules)
    (λ i old new call. search rules)
    c.for_each_mut.ensures
