use Rattle.hl_script.proofs.FastLaws.{fast_begins}
use Rattle.hl_script.proofs.fast.JobsOpeningFast.open.Goals as goal

pub returns : goal.returns
returns g c = λ has begins.
    fast_begins c.args.self.shelf c.in-Ok.engine has c.args.params begins c.in-Ok.ensures.ok.0 c.in-Ok.ensures.ok.1 c.requires.narrow
