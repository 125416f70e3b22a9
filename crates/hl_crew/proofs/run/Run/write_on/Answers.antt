use Rattle.std.proofs.Common.{◌+◌, true}
use Rattle.std.specs.Prelude.{Ok}
use Rattle.hl_crew.specs.Riders.{WritesPage, FailsPage}
use Rattle.hl_crew.specs.Works.{CopiesSent}
use Rattle.hl_crew.proofs.GoesLaws.{followed_more}
use Rattle.hl_crew.proofs.run.Run.write_on.Goals as goal

pub loop-preserved : goal.loop-preserved
loop-preserved g c =
    let writer = c.args.self.now in
    let One = CopiesSent g.row.F.Denot writer.domain.now writer.limits (g.G.Gate.lets writer.gate.now) (WritesPage g.W.PageWriter.has g.W.PageWriter.wrote) (FailsPage g.W.PageWriter.has g.W.PageWriter.failed) g.W.PageWriter.failures in
    let copied = c.write-acknowledgement in
    let before = c.loop.invariant in
    let one : One before.0 (Ok true) c.loop.own copied.new.own = (_, copied.result.ok, copied.ensures.copies, copied.ensures.counts) in
    (before.0 + 1, followed_more One before.0 _ c.loop.own copied.new.own before.1 one)

pub returns-then-is_err : goal.returns-then-is_err
returns-then-is_err g c =
    let writer = c.args.self.now in
    let One = CopiesSent g.row.F.Denot writer.domain.now writer.limits (g.G.Gate.lets writer.gate.now) (WritesPage g.W.PageWriter.has g.W.PageWriter.wrote) (FailsPage g.W.PageWriter.has g.W.PageWriter.failed) g.W.PageWriter.failures in
    let copied = c.write-acknowledgement in
    let before = c.loop.invariant in
    let one : One before.0 (Ok true) c.loop.own copied.new.own = (_, copied.result.ok, copied.ensures.copies, copied.ensures.counts) in
    (before.0 + 1, followed_more One before.0 _ c.loop.own copied.new.own before.1 one)
