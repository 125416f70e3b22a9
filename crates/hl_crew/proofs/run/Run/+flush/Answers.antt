use Rattle.std.proofs.Common.{refl, inl, Err}
use Rattle.std.specs.Prelude.{Ok}
use Rattle.std.proofs.lemmas.Result.{err_from_is_err_and}
use Rattle.hl_crew.specs.Riders.{WritesPage, FailsPage}
use Rattle.hl_crew.proofs.PageLaws.{flushed, passes_more}
use Rattle.hl_crew.proofs.run.Run.+flush.Goals as goal

pub flush-returns-in-Err-NoneSealed : goal.flush-returns-in-Err-NoneSealed
flush-returns-in-Err-NoneSealed g t c = inl (refl, (rw c.in-Err-NoneSealed.field-0-is at c.in-Err-NoneSealed.ensures.met, refl))

pub flush-returns-in_err-accepted : goal.flush-returns-in_err-accepted
flush-returns-in_err-accepted g t c =
    let p = err_from_is_err_and c.from_residual.result c.from_residual.ensures.1 in
    rw (p.1, p.2)
    (flushed g.row.F.Denot c.args.self.now.domain.now c.args.self.now.limits.cuts _ _ _ _ _ c.ok-ok.result c.flush_behind-passed.result (Err c.in_err-accepted.field-0.0) c.in-Ok.load c.flush_take.new.rider c.args.own.now c.write.new.own c.flush_behind-passed.new.own _
    c.in-Ok.ensures.met (rw c.ok-ok.ensures (rw c.of-2.ensures at c.write.ensures.copies)) c.write.ensures.counts c.flush_behind-passed.ensures c.in_err-accepted.ensures refl refl)

pub flush-returns : goal.flush-returns
flush-returns g t c =
    flushed g.row.F.Denot c.args.self.now.domain.now c.args.self.now.limits.cuts _ _ _ _ _ c.ok-ok.result c.flush_behind-passed.result (Ok c.in_ok-accepted.accepted) c.in-Ok.load c.flush_take.new.rider c.args.own.now c.write.new.own c.flush_behind-passed.new.own _
    c.in-Ok.ensures.met (rw c.ok-ok.ensures (rw c.of-2.ensures at c.write.ensures.copies)) c.write.ensures.counts c.flush_behind-passed.ensures c.in_ok-accepted.ensures refl c.count.ensures

pub flush_behind-returns : goal.flush_behind-returns
flush_behind-returns g t c =
    let writer = c.args.self.now in
    rw c.if-ok.false
    (passes_more g.row.F.Denot writer.domain.now writer.limits.cuts (g.G.Gate.lets writer.gate.now) (WritesPage g.W.PageWriter.has g.W.PageWriter.wrote) (FailsPage g.W.PageWriter.has g.W.PageWriter.failed) g.W.PageWriter.failures c.args.behind _ _ _
    c.if-behind-eq0.false c.flush.ensures)
