use Rattle.std.proofs.Common.{rules}
use Rattle.hl_model.specs.declared.step.Step.TheVariants.{Release as RELEASE}
use Rattle.hl_c_log.proofs.PassCalls.{released, not_released}
use Rattle.hl_c_log.proofs.by_pass.released.Goals as goal

pub returns-then-accepted : goal.returns-then-accepted
returns-then-accepted c = released (RELEASE 0) c.args.log.now.slot.value _ c.args.pass.now.slot.value c.by_pass-outcome.new.pass.slot.value _ c.by_pass-outcome.result c.by_pass-outcome.ensures (search rules) (search rules)

pub returns-else-accepted : goal.returns-else-accepted
returns-else-accepted c = not_released (RELEASE 0) c.args.log.now.slot.value _ c.args.pass.now.slot.value _ c.by_pass-outcome.result c.by_pass-outcome.ensures (search rules)
