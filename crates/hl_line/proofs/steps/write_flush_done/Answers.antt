use Rattle.std.proofs.Common.{rules}
use Rattle.hl_line.proofs.steps.write_flush_done.Goals as goal

pub returns : goal.returns
returns c = search rules
