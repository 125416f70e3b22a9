use Rattle.hl_model.specs.Actions.{pending}
use Rattle.hl_script.proofs.SlowLaws.{slow_shows}
use Rattle.hl_script.proofs.slow.SlowStepping.pending.Goals as goal

pub returns : goal.returns
returns c = λ has sizes A standing. slow_shows c.args.self.now.tags c.args.self.now.plain has sizes A (λ sizes A. pending A) c.pending.result.items standing c.pending.ensures.behind
