use Rattle.std.proofs.Common.{rules}
use Rattle.hl_core.proofs.state.Core.may_look.Goals as goal

pub returns : goal.returns
returns g c = search rules
