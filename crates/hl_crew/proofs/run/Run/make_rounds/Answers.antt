use Rattle.std.proofs.Common.{true, refl, arith}
use Rattle.hl_crew.proofs.GoesLaws.{going_more, going_all, going_failed}
use Rattle.hl_crew.proofs.run.Run.make_rounds.Goals as goal

pub loop-preserved : goal.loop-preserved
loop-preserved g c =
    going_more _ _ true _ _ _ c.loop.invariant (c.serve_turn.new.own, rw (c.requires, c.in-Ok-true.field-0-test) at c.in-Ok-true.ensures, c.look.ensures) refl

pub returns-in-Err : goal.returns-in-Err
returns-in-Err g c = going_failed _ _ _ _ _ _ _ (omega arith) c.loop.invariant (rw c.requires at c.in-Err.ensures, refl)

pub returns : goal.returns
returns g c = going_all _ _ _ _ _ (omega arith) c.loop.invariant
