use Rattle.hl.specs.Traces.{acts}
use Rattle.example_records.proofs.TellLaws.{none_told}
use Rattle.example_records.proofs.storing.StoringWork.run.Goals as goal

pub loop-k-init : goal.loop-k-init
loop-k-init g c = λ fresh. none_told (acts c.args.session.now) fresh c.new.result.items c.new-2.result.items c.new.ensures.items c.new-2.ensures.items
