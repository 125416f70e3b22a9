use Rattle.example_sums.proofs.SumLaws.{one_more}
use Rattle.example_sums.proofs.adder.add.Goals as goal

pub returns-in-Ok : goal.returns-in-Ok
returns-in-Ok g c = one_more c.adds_add_up.ensures _ _ _ c.args.number _ _ c.ranges.number.fits c.in-Ok.ensures.pass
