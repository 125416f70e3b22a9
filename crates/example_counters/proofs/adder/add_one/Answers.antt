use Rattle.std.proofs.Common.{rules, ◌<◌, length, refl}
use Rattle.hl.specs.Traces.{acts}
use Rattle.example_counters.proofs.AddLaws.{still, one_more}
use Rattle.example_counters.proofs.adder.add_one.Goals as goal

pub returns-then-add_to : goal.returns-then-add_to
returns-then-add_to g c = λ adds.
    let within : c.args.add.counter < length c.args.sums.now = search rules in
    one_more c.args.sums.now c.args.add.counter c.args.add.number _ (acts c.keep_up.new.session) _ within refl c.if-add_to.ensures (still c.args.sums.now (acts c.args.session.now) (acts c.keep_up.new.session) c.keep_up.ensures adds)
