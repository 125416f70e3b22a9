use Rattle.example_counters.proofs.AddLaws.{placed}
use Rattle.example_counters.proofs.adder.place.Goals as goal

pub returns : goal.returns
returns g c = placed 4 c.allocate.result c.args.session.now c.allocate.new.self c.allocate.ensures.did
