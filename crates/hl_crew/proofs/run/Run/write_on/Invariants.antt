use Rattle.std.specs.Prelude.{ℕ}
use Rattle.hl_crew.specs.Goes.{Followed}
use Rattle.hl_crew.specs.Riders.{WritesPage, FailsPage}
use Rattle.hl_crew.specs.Works.{CopiesSent}
use Rattle.hl_crew.proofs.run.Run.write_on.Given as goal

-- so many pages were copied
abbrev pub invariant-loop : goal.invariant-loop
invariant-loop g l =
    let writer = l.self in
    (pages : ℕ)
    × Followed (CopiesSent g.row.F.Denot writer.domain.now writer.limits (g.G.Gate.lets writer.gate.now) (WritesPage g.W.PageWriter.has g.W.PageWriter.wrote) (FailsPage g.W.PageWriter.has g.W.PageWriter.failed) g.W.PageWriter.failures)
    pages l.initial.own l.own
