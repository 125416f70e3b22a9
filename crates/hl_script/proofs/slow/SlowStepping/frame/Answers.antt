use Rattle.hl_model.specs.Frames.{frame_of}
use Rattle.hl_script.proofs.SlowLaws.{slow_shows}
use Rattle.hl_script.proofs.slow.SlowStepping.frame.Goals as goal

pub returns : goal.returns
returns c = λ has sizes A standing. slow_shows c.args.self.now.tags c.args.self.now.plain has sizes A (λ sizes A. frame_of sizes c.args.f A) c.frame.result standing c.frame.ensures.behind
