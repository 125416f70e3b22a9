use Rattle.std.proofs.Common.{rules}
use Rattle.hl_c.proofs.Calls.{pending_tells}
use Rattle.hl_c.proofs.queries.hl_pending.Goals as goal

pub returns-in-Some : goal.returns-in-Some
returns-in-Some c = pending_tells _ c.put_core.new.self.slot.value c.in-Some.core.value c.of_pending-outcome.result c.args.place c.pending_count.result c.pending_at.result c.in-Some.ensures.core (search rules) (search rules) (search rules) c.of_pending-outcome.ensures
