use Rattle.std.proofs.Common.{true, refl}
use Rattle.hl_crew.proofs.GoesLaws.{going_more}
use Rattle.hl_crew.proofs.run.Run.make_turns.Goals as goal

pub loop-preserved : goal.loop-preserved
loop-preserved g c = going_more _ _ true _ _ _ c.loop.invariant (rw c.in_ok-made.was at c.turn-made.ensures) refl
