use Rattle.std.proofs.Common.{rules}
use Rattle.hl_c_log.specs.Passes.{stays}
use Rattle.hl_c_log.proofs.PassCalls.{calls_by}
use Rattle.hl_c_log.proofs.by_pass.by_pass.Goals as goal

pub returns : goal.returns
returns c = calls_by stays c.args.step _ _ _ _ c.in-Some.held.value _ c.call.new.self c.in-Some-take.own.value _ c.call.new.pass _ c.call.result c.in-Some.ensures.value c.in-Some-take.ensures.value (search rules) (search rules) (search rules) (search rules) (search rules) c.call.ensures (search rules)
