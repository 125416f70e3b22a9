use Rattle.std.proofs.Common.{rules}
use Rattle.hl_offsets.proofs.offsets.Offsets.allocate.Goals as goal

pub returns-clause-effect : goal.returns-clause-effect
returns-clause-effect c = search rules
