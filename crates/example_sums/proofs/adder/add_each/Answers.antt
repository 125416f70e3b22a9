use Rattle.std.proofs.Common.{refl}
use Rattle.hl_keeper.specs.Passes.{cell_at}
use Rattle.example_sums.proofs.SumLaws.{both_more}
use Rattle.example_sums.proofs.adder.add_each.Goals as goal

pub loop-number-preserved : goal.loop-number-preserved
loop-number-preserved g c =
    both_more (cell_at c.args.domain.now.sizes c.args.counter) c.loop-number.sum c.add-sum.result _ c.args.pass.now.rider.view.touches c.loop-number.pass.rider.view.touches c.add-sum.new.pass.rider.view.touches refl c.loop-number.invariant c.add-sum.ensures
