use Rattle.example_counters.proofs.AddLaws.{kept}
use Rattle.example_counters.proofs.adder.keep_up.Goals as goal

pub returns : goal.returns
returns g c = kept c.args.session.now c.keep_up.new.self c.keep_up.ensures.did
