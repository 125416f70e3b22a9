use Rattle.std.proofs.Common.{true, false}
use Rattle.hl_keeper.proofs.JournalLaws.{room_told}
use Rattle.hl_keeper.proofs.journal.Journal.room.Goals as goal

pub returns-then-is_full_at : goal.returns-then-is_full_at
returns-then-is_full_at c = room_told c.args.self.now c.args.count c.is_full_at.result true c.is_full_at.ensures c.if-is_full_at.true

pub returns : goal.returns
returns c = room_told c.args.self.now c.args.count c.is_full_at.result false c.is_full_at.ensures c.if-is_full_at.false
