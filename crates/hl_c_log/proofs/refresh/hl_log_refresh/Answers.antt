use Rattle.std.proofs.Common.{rules}
use Rattle.hl_model.specs.declared.step.Step.TheVariants.{Refresh as REFRESH}
use Rattle.hl_core.specs.Steps.{as_reply, entered_reply}
use Rattle.hl_c_log.specs.Passes.{stays}
use Rattle.hl_c_log.proofs.PassCalls.{calls_by}
use Rattle.hl_c_log.proofs.refresh.hl_log_refresh.Goals as goal

pub returns : goal.returns
returns c = calls_by stays (REFRESH 0) _ _ _ _ c.in-Some.held.value _ c.refresh-entered.new.self c.in-Some-take.own.value _ c.refresh-entered.new.pass _ (as_reply entered_reply c.refresh-entered.result) c.in-Some.ensures.value c.in-Some-take.ensures.value (search rules) (search rules) (search rules) (search rules) (search rules) c.refresh-entered.ensures (search rules)
