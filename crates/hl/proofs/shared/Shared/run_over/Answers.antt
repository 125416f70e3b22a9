use Rattle.std.proofs.Common.{rules, arith, ◌≡◌, ap, sym, ◌∙◌}
use Rattle.hl_words.specs.States.{new_riders}
use Rattle.hl.specs.Devices.{device_has}
use Rattle.hl.specs.Openings.{opened_as}
use Rattle.hl.proofs.OutLaws.{all_new, all_of_same, places_count}
use Rattle.hl.proofs.shared.Shared.run_over.Goals.{in-Ok, in-Err}
use Rattle.hl.proofs.shared.Shared.run_over.Goals as goal

pub open-requires-2-clause-four : goal.open-requires-2-clause-four
open-requires-2-clause-four g c =
    let long = (all_new c.args.opening.riders c.in_ok-log.riders.items (c.in_ok-log.ensures.riders ∙ ap new_riders c.requires.sizes.1)).0 in
    omega (arith, long, c.requires.four)

pub open-requires-2-clause-few : goal.open-requires-2-clause-few
open-requires-2-clause-few g c =
    let long = (all_new c.args.opening.riders c.in_ok-log.riders.items (c.in_ok-log.ensures.riders ∙ ap new_riders c.requires.sizes.1)).0 in
    omega (arith, long, c.requires.range.few_riders)

pub run_all-out-requires-clause-new : goal.run_all-out-requires-clause-new
run_all-out-requires-clause-new g c κs within =
    (all_new c.args.opening.riders _ (c.in_ok-rows.ensures.same ∙ c.in_ok-log.ensures.riders ∙ ap new_riders c.requires.sizes.1)).1

pub returns-clause-closed : goal.returns-clause-closed
returns-clause-closed g c =
    let same : c.in_ok-log.log ≡ opened_as c.args.opening = search rules in
    let long = (all_new c.args.opening.riders _ (c.in_ok-rows.ensures.same ∙ c.in_ok-log.ensures.riders ∙ ap new_riders c.requires.sizes.1)).0 in
    let count = sym (places_count c.in_ok-rows.rows.places.items c.in_ok-rows.rows.crew.riders) ∙ long in
    let left = all_of_same _ _ _ _ _ (device_has (g.P.Work.took c.args.self.now.work.now) c.run_all-out.result.0.1) _ c.args.opening.riders c.run_all-out.result.0.0.outs.items c.run_all-out.result.1.items same count c.run_all-out.ensures.left in
    elim c.match-close.branch [
      | in-Ok w ↦ record { riders = c.run_all-out.result.1.items; left = left; ending = search rules }
      | in-Err w ↦ record { riders = c.run_all-out.result.1.items; left = left; ending = search rules }
    ]
