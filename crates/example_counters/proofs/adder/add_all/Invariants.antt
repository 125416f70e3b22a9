use Rattle.hl.specs.Traces.{acts, IsFresh}
use Rattle.example_counters.specs.Counters.{AddsEach}
use Rattle.example_counters.proofs.adder.add_all.Given as goal

-- the sums so far
abbrev pub invariant-loop-add : goal.invariant-loop-add
invariant-loop-add g l = IsFresh l.fn.session → AddsEach l.sums (acts l.session)
