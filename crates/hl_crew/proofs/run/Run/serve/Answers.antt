use Rattle.std.proofs.Common.{◌+◌, true, refl}
use Rattle.hl_crew.proofs.GoesLaws.{going_more}
use Rattle.hl_crew.proofs.run.Run.serve.Goals as goal

pub loop-preserved : goal.loop-preserved
loop-preserved g c =
    let before = c.loop.invariant.2 in
    (tt, tt, (before.0 + 1, going_more _ before.0 true _ _ _ before.1 c.in-Ok.ensures refl))
