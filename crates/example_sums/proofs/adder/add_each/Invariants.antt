use Rattle.hl_keeper.specs.Passes.{cell_at}
use Rattle.example_sums.specs.Adding.{AddsMore}
use Rattle.example_sums.proofs.adder.add_each.Given as goal

-- the numbers so far
abbrev pub invariant-loop-number : goal.invariant-loop-number
invariant-loop-number g l = AddsMore (cell_at l.domain.sizes l.counter) l.sum l.fn.pass.rider.view.touches l.pass.rider.view.touches
