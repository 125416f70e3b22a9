use Rattle.hl_crew.specs.Goes.{Going}
use Rattle.hl_crew.specs.Turns.{RunsAction}
use Rattle.hl_crew.proofs.run.Run.run_actions.Given as goal

-- as many actions were run as there were turns
abbrev pub invariant-loop : goal.invariant-loop
invariant-loop g l =
    Going (RunsAction g.row.F.Denot l.self.domain.now l.self.limits.cuts) l.counter l.initial.rider l.rider
