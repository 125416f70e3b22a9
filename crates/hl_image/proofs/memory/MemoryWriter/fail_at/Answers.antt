use Rattle.std.proofs.Common.{rules}
use Rattle.hl_image.proofs.memory.MemoryWriter.fail_at.Goals as goal

pub returns : goal.returns
returns c = search rules
