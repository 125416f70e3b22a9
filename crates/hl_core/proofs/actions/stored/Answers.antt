use Rattle.std.proofs.Common.{rules}
use Rattle.hl_core.proofs.actions.stored.Goals as goal

pub returns-in-Settle : goal.returns-in-Settle
returns-in-Settle g c = search rules
