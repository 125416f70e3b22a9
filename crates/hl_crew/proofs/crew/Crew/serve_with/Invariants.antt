use Rattle.std.specs.Prelude.{true}
use Rattle.hl_crew.specs.Riders.{WritesPage, FailsPage}
use Rattle.hl_crew.specs.Runs.{TurnsBy}
use Rattle.hl_crew.specs.Works.{CleansBy, IsLeft, WritesBy, begun}
use Rattle.hl_crew.proofs.crew.Crew.serve_with.Given as goal

-- what each thread is given, and does
abbrev pub ghosts-run : goal.ghosts-run
ghosts-run g a = record {
  flusher = λ is_done rider counts asked. IsLeft (TurnsBy g.row.F.Denot a.domain.now a.limits true) (begun a.self).flusher is_done (record { rider = rider; counts = counts; asked = asked });
  first = λ is_done rider pages counts. IsLeft (WritesBy g.row.F.Denot a.domain.now a.limits (g.G.Gate.lets a.gate.now) (WritesPage g.W.PageWriter.has g.W.PageWriter.wrote) (FailsPage g.W.PageWriter.has g.W.PageWriter.failed) g.W.PageWriter.failures true) (begun a.self).first is_done (record { rider = rider; pages = pages; buffers = tt; counts = counts });
  second = λ is_done rider pages counts. IsLeft (WritesBy g.row.F.Denot a.domain.now a.limits (g.G.Gate.lets a.gate.now) (WritesPage g.W.PageWriter.has g.W.PageWriter.wrote) (FailsPage g.W.PageWriter.has g.W.PageWriter.failed) g.W.PageWriter.failures true) (begun a.self).second is_done (record { rider = rider; pages = pages; buffers = tt; counts = counts });
  cleaner = λ is_done rider swept. IsLeft (CleansBy g.row.F.Denot a.domain.now a.limits) (begun a.self).cleaner is_done (record { rider = rider; swept = swept });
}
