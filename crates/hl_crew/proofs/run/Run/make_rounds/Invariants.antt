use Rattle.hl_crew.specs.Riders.{WritesPage, FailsPage}
use Rattle.hl_crew.specs.Goes.{Going}
use Rattle.hl_crew.specs.Rounds.{MakesRound}
use Rattle.hl_crew.proofs.run.Run.make_rounds.Given as goal

-- the flusher got somewhere in each round so far
abbrev pub invariant-loop : goal.invariant-loop
invariant-loop g l =
    let crew = l.self in
    Going (MakesRound g.row.F.Denot crew.domain.now crew.limits (g.G.Gate.lets crew.gate.now) (WritesPage g.W.PageWriter.has g.W.PageWriter.wrote) (FailsPage g.W.PageWriter.has g.W.PageWriter.failed) g.W.PageWriter.failures)
    l.counter l.initial.state l.state
