use Rattle.std.proofs.Common.{refl}
use Rattle.hl_crew.specs.Turns.{Cleans, CutsByCleaner}
use Rattle.hl_crew.proofs.LookLaws.{looks_once, looks_twice}
use Rattle.hl_crew.proofs.cleaner.RunLookCleanerState.find.Goals as goal

-- the journal was cut, and a page was looked for once more
pub returns-then-has_made_room : goal.returns-then-has_made_room
returns-then-has_made_room g c =
    let domain = c.args.self.now.domain.now in
    let cuts = c.args.self.now.limits.cuts in
    looks_twice (Cleans g.row.F.Denot domain cuts) (CutsByCleaner g.row.F.Denot domain cuts) cuts
    c.clean-cleaned.result c.clean.result c.or_nowhere.result c.has_made_room.result c.args.own.now c.clean-cleaned.new.own (record c.clean-cleaned.new.own { rider = c.has_made_room.new.rider }) c.clean.new.own
    c.clean-cleaned.ensures c.has_made_room.ensures.answer c.if-has_made_room.true (rw c.if-has_made_room.true at c.has_made_room.ensures.room, refl) c.clean.ensures c.or_nowhere.ensures

-- no room was made
pub returns-else-has_made_room : goal.returns-else-has_made_room
returns-else-has_made_room g c =
    let domain = c.args.self.now.domain.now in
    let cuts = c.args.self.now.limits.cuts in
    let same = rw c.if-has_made_room.false at c.has_made_room.ensures.room in
    rw same
    (looks_once (Cleans g.row.F.Denot domain cuts) (CutsByCleaner g.row.F.Denot domain cuts) cuts
    c.clean-cleaned.result c.has_made_room.result c.args.own.now c.clean-cleaned.new.own c.clean-cleaned.ensures c.has_made_room.ensures.answer c.if-has_made_room.false)
