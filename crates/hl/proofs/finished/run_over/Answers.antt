use Rattle.std.proofs.Common.{arith, ap, ◌∙◌}
use Rattle.hl_words.specs.States.{new_riders}
use Rattle.hl.proofs.OutLaws.{all_new}
use Rattle.hl.proofs.FinishLaws.{as_unfinished}
use Rattle.hl.proofs.finished.run_over.Goals as goal

pub open-requires-2-clause-enough : goal.open-requires-2-clause-enough
open-requires-2-clause-enough g c =
    let long = (all_new c.args.opening.riders c.in-Ok.opened.1.items (c.in-Ok.ensures.riders ∙ ap new_riders c.requires.sizes.1)).0 in
    omega (arith, long, c.requires.enough)

pub open-requires-2-clause-few : goal.open-requires-2-clause-few
open-requires-2-clause-few g c =
    let long = (all_new c.args.opening.riders c.in-Ok.opened.1.items (c.in-Ok.ensures.riders ∙ ap new_riders c.requires.sizes.1)).0 in
    omega (arith, long, c.requires.range.few_riders)

pub run_in-requires-clause-all : goal.run_in-requires-clause-all
run_in-requires-clause-all g c κs within = c.in-Ok-open.ensures.same ∙ c.in-Ok.ensures.riders ∙ ap new_riders c.requires.sizes.1

pub returns-in-Ok-open-clause-finished : goal.returns-in-Ok-open-clause-finished
returns-in-Ok-open-clause-finished g c = as_unfinished _ _ _ _ _ _ _ _ c.run_in.result c.run_in.ensures.finished
