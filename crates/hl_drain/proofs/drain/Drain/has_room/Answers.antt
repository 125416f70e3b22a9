use Rattle.std.proofs.Common.{rules}
use Rattle.hl_drain.proofs.drain.Drain.has_room.Goals as goal

pub returns-clause-room : goal.returns-clause-room
returns-clause-room g c = search rules
