use Rattle.std.proofs.Common.{refl}
use Rattle.hl_crew.specs.Pages.{CutsByRider, Flushes}
use Rattle.hl_crew.specs.Riders.{WritesPage, FailsPage}
use Rattle.hl_crew.proofs.LookLaws.{looks_once, looks_twice}
use Rattle.hl_crew.proofs.writer.flush.RunLookWriterState.find.Goals as goal

-- the journal was cut, and a page was looked for once more
pub returns-then-has_made_room : goal.returns-then-has_made_room
returns-then-has_made_room g c =
    let domain = c.args.self.now.domain.now in
    let cuts = c.args.self.now.limits.cuts in
    looks_twice (Flushes g.row.F.Denot domain cuts (g.G.Gate.lets c.args.self.now.gate.now) (WritesPage g.W.PageWriter.has g.W.PageWriter.wrote) (FailsPage g.W.PageWriter.has g.W.PageWriter.failed) g.W.PageWriter.failures 3) (CutsByRider g.row.F.Denot domain) cuts
    c.flush-flushed.result c.flush.result c.or_nowhere.result c.has_made_room.result c.args.own.now c.flush-flushed.new.own (record c.flush-flushed.new.own { rider = c.has_made_room.new.rider }) c.flush.new.own
    c.flush-flushed.ensures c.has_made_room.ensures.answer c.if-has_made_room.true (rw c.if-has_made_room.true at c.has_made_room.ensures.room, refl) c.flush.ensures c.or_nowhere.ensures

-- no room was made
pub returns-else-has_made_room : goal.returns-else-has_made_room
returns-else-has_made_room g c =
    let domain = c.args.self.now.domain.now in
    let cuts = c.args.self.now.limits.cuts in
    let same = rw c.if-has_made_room.false at c.has_made_room.ensures.room in
    rw same
    (looks_once (Flushes g.row.F.Denot domain cuts (g.G.Gate.lets c.args.self.now.gate.now) (WritesPage g.W.PageWriter.has g.W.PageWriter.wrote) (FailsPage g.W.PageWriter.has g.W.PageWriter.failed) g.W.PageWriter.failures 3) (CutsByRider g.row.F.Denot domain) cuts
    c.flush-flushed.result c.has_made_room.result c.args.own.now c.flush-flushed.new.own c.flush-flushed.ensures c.has_made_room.ensures.answer c.if-has_made_room.false)
