use Rattle.hl_crew.specs.Goes.{Going}
use Rattle.hl_crew.specs.Looks.{LooksNext}
use Rattle.hl_crew.proofs.looks.Looker.look_on.Given as goal

-- none of the looks so far was the last
abbrev pub invariant-loop : goal.invariant-loop
invariant-loop g l = Going (LooksNext (g.H.Look.finds l.with)) l.counter l.initial.own l.own
