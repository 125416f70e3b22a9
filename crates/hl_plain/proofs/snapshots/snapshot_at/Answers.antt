use Rattle.std.proofs.Common.{rules}
use Rattle.hl_plain.proofs.snapshots.snapshot_at.Goals as goal

pub returns : goal.returns
returns c = search rules
