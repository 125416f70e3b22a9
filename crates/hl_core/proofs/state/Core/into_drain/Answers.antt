use Rattle.std.proofs.Common.{rules}
use Rattle.hl_core.proofs.state.Core.into_drain.Goals as goal

pub returns : goal.returns
returns g c = search rules
