use Rattle.std.proofs.Common.{arith}
use Rattle.std.proofs.lemmas.Grind.{common_steps}
use Rattle.hl_line.specs.Reading.{epoch_steps, word_steps, step_with}
use Rattle.hl_line.proofs.Tables.{beside_either}
use Rattle.hl_line.proofs.steps.step_with.Goals as goal

pub returns-else-eq-2 : goal.returns-else-eq-2
unfolding step_with
returns-else-eq-2 c =
    let both = beside_either c.args.keyword.now (epoch_steps c.number-a.result) (word_steps c.number-a.result c.number-b.result c.number-c.result) in
    grind (arith, common_steps, both)
