use Rattle.std.proofs.Common.{rules, ◌≡◌, ◌+◌, ◌++◌, false, map, length, refl, sym, ap, ◌∙◌, subst₂}
use Rattle.std.specs.Prelude.{is_some}
use denote.Param.Send.{param_send, param_sync}
use Rattle.std.specs.List.{AllByRecursion}
use Rattle.std.proofs.lemmas.List.{length-map}
use Rattle.hl_words.specs.States.{new_riders}
use Rattle.hl_images.specs.Kept.{RiderEnters}
use Rattle.hl_images.specs.Sweeps.{StoresSweep}
use Rattle.hl_images.proofs.KeptLaws.{riders_stay_entered}
use Rattle.hl_traces.specs.Traces.{RiderTraces}
use Rattle.hl_traces.proofs.TraceLaws.{new_traces}
use Rattle.hl_crew.specs.Limited.{duty_cuts}
use Rattle.hl_crew.specs.Riders.{CutsNone, FlushesNone, MakesCrewSteps, RidersStay, riders_of}
use Rattle.hl.specs.Devices.{device_has}
use Rattle.hl.specs.Closings.{rider_at, AreReturned, CountReturned, FlushesTaken}
use Rattle.hl.proofs.OutLaws.{threads_given, crew_given, new_sweeps, new_flushes, never_cuts, places_count, with_crew}
use Rattle.hl.proofs.shared.Shared.run_and_flush.Goals as goal

-- the threads' riders are new
pub join-crew-requires-after_bounds : goal.join-crew-requires-after_bounds
join-crew-requires-after_bounds g c κs within =
    let sizes = c.args.log.now.sizes in
    let olds = map (λ place. place.1) c.args.rows.places.items in
    let crew = riders_of c.args.rows.crew.riders in
    let fresh : AllByRecursion (RiderTraces sizes) olds = threads_given (RiderTraces sizes) (new_traces sizes) (length (olds ++ crew)) (olds ++ crew) olds crew c.requires.new refl in
    ((c.requires.duty, search (rules, c.type_bounds, param_send, param_sync)), (fresh, (c.requires.enters, search (rules, c.type_bounds, param_send, param_sync))))

pub returns-clause-left : goal.returns-clause-left
returns-clause-left g c =
    let Returns = g.P.Work.returns c.args.self.now.work.now in
    let log = c.args.log.now in
    let may_cut = is_some c.args.self.now.duty.cut_above in
    let olds = map (λ place. place.1) c.args.rows.places.items in
    let given = riders_of c.args.rows.crew.riders in
    let all = olds ++ given in
    let total = length c.args.rows.places.items + 4 in
    let new : all ≡ new_riders total = c.requires.new ∙ ap new_riders (places_count c.args.rows.places.items c.args.rows.crew.riders) in
    let joined = c.join-crew.result.0 in
    let worked = c.join-crew.result.1.left.0.items in
    let back = riders_of joined.0 in
    let Took = device_has (g.P.Work.took c.args.self.now.work.now) joined.1 in
    let known : (length worked ≡ length olds) × AreReturned g.row.P-Job.Denot log may_cut Returns (rider_at olds) (map (λ one. one.0) worked) (map (λ one. one.1) worked) = c.join-crew.ensures.second.0 in
    let outs : c.part-outs.result.0.items ≡ map (λ one. one.0) worked = search rules in
    let riders : c.put_back_reserved.new.riders.items ≡ map (λ one. one.1) worked ++ back = search rules in
    let sweep_given : AllByRecursion (StoresSweep log.sizes) given = crew_given (StoresSweep log.sizes) (new_sweeps log.sizes) total all olds given new refl in
    let none_given : AllByRecursion FlushesNone given = crew_given FlushesNone new_flushes total all olds given new refl in
    let enter_given : AllByRecursion (RiderEnters log.sizes) given = crew_given (RiderEnters log.sizes) (riders_stay_entered log.sizes).new total all olds given new refl in
    let make_given : AllByRecursion MakesCrewSteps given = crew_given MakesCrewSteps (λ name. tt) total all olds given new refl in
    let keep_given : AllByRecursion CutsNone given = crew_given CutsNone (λ name. tt) total all olds given new refl in
    let stay : RidersStay (duty_cuts c.args.self.now.duty.cut_above) log.sizes given back = c.join-crew.ensures.first.0.stay in
    let keeps = λ (kept : may_cut ≡ false). stay.keeps (never_cuts c.args.self.now.duty.cut_above kept) keep_given in
    let taken : AllByRecursion (FlushesTaken Took log.sizes) back = c.join-crew.ensures.first.0.images none_given in
    let whole : CountReturned g.row.P-Job.Denot log may_cut Returns Took total (map (λ one. one.0) worked) (map (λ one. one.1) worked ++ back) =
    with_crew g.row.P-Job.Denot log may_cut Returns Took total all olds given (map (λ one. one.0) worked) (map (λ one. one.1) worked) back new refl (length-map worked (λ one. one.0) ∙ known.0) (length-map worked (λ one. one.1) ∙ known.0) refl refl (stay.sweeps sweep_given) (stay.enters enter_given) (stay.makes make_given) keeps taken known.1 in
    subst₂ (λ l r. CountReturned g.row.P-Job.Denot log may_cut Returns Took total l r) (sym outs) (sym riders) whole
