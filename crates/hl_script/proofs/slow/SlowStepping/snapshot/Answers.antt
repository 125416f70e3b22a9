use Rattle.hl_model.specs.Snapshots.{snapshot_of}
use Rattle.hl_script.proofs.SlowLaws.{slow_shows}
use Rattle.hl_script.proofs.slow.SlowStepping.snapshot.Goals as goal

pub returns : goal.returns
returns c = λ has sizes A standing. slow_shows c.args.self.now.tags c.args.self.now.plain has sizes A snapshot_of c.snapshot.result standing c.snapshot.ensures.behind
