use Rattle.std.proofs.Common.{rules}
use Rattle.hl_script.proofs.FastLaws.{fast_steps}
use Rattle.hl_script.proofs.fast.FastStepping.step.Goals as goal

pub returns-in_default : goal.returns-in_default
returns-in_default g c = λ has sizes A standing.
    fast_steps c.args.self.now.shelf c.args.self.now.engine c.step.new.self has sizes A c.args.step.now c.step.result standing (search rules) (c.step.ensures.moved A standing.standing)
