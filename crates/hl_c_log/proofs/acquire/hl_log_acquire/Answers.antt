use Rattle.std.proofs.Common.{rules}
use Rattle.hl_c_log.proofs.PassCalls.{acquires_by}
use Rattle.hl_c_log.proofs.acquire.hl_log_acquire.Goals as goal

pub returns-in-Some : goal.returns-in-Some
returns-in-Some c = acquires_by c.args.slot _ _ _ _ c.in-Some.held.value _ c.acquired-outcome.new.log _ c.in-Some.ensures.value (search rules) (search rules) (search rules) c.acquired-outcome.ensures
