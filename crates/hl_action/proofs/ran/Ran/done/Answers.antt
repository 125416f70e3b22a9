use Rattle.std.proofs.Common.{rules}
use Rattle.hl_action.proofs.ran.Ran.done.Goals as goal

pub returns : goal.returns
returns c = search rules
