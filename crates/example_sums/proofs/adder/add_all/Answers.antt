use Rattle.std.proofs.Common.{[]}
use Rattle.hl_keeper.specs.Passes.{cell_at}
use Rattle.example_sums.proofs.SumLaws.{call_adds_nothing, none_more}
use Rattle.example_sums.proofs.adder.add_all.Goals as goal

pub returns-in-Err : goal.returns-in-Err
returns-in-Err g c =
    let cell = cell_at c.args.domain.now.sizes c.args.counter in
    let met = c.in-Err.ensures.met in
    none_more cell c.args.rider.view.touches c.in-Err.rider.view.touches (call_adds_nothing met.before.cut met.after.cut met.list [] c.args.rider c.in-Err.rider met.entered cell)
