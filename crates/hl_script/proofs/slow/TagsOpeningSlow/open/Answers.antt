use Rattle.hl_script.proofs.SlowLaws.{slow_begins}
use Rattle.hl_script.proofs.slow.TagsOpeningSlow.open.Goals as goal

pub returns : goal.returns
returns c = λ has begins.
    slow_begins c.args.self.count c.in-Ok.plain has c.args.params begins.0 begins.1 c.in-Ok.ensures.ok c.in-Ok.ensures.valid
