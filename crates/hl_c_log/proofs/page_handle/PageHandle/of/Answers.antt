use Rattle.std.proofs.Common.{rules}
use Rattle.hl_c_log.proofs.page_handle.PageHandle.of.Goals as goal

pub invariant_of-result : goal.invariant_of-result
invariant_of-result c = search rules
