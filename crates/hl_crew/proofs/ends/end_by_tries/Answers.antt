use Rattle.std.proofs.Common.{◌∙◌, refl, arith}
use Rattle.hl_crew.proofs.TryLaws.{tries_again, tries_accepted, tries_refused, tries_all}
use Rattle.hl_crew.proofs.ends.end_by_tries.Goals as goal

pub loop-init : goal.loop-init
loop-init g c = (refl, record { again = refl })

pub loop-preserved : goal.loop-preserved
loop-preserved g c = (
  c.in-Err.ensures.refused ∙ c.loop.invariant.0,
  tries_again c.loop.invariant.1 (rw c.loop.invariant.0 at c.in-Err.ensures.met) c.if-not-make_room.ensures.answer c.if-not-make_room.ensures.room,
)

pub returns-in-Ok-clause-met : goal.returns-in-Ok-clause-met
returns-in-Ok-clause-met g c = tries_accepted c.loop.invariant.1 (rw c.loop.invariant.0 at c.in-Ok.ensures.met) (omega arith)

pub returns-then-not-make_room-clause-met : goal.returns-then-not-make_room-clause-met
returns-then-not-make_room-clause-met g c =
    tries_refused c.loop.invariant.1 (rw c.loop.invariant.0 at c.in-Err.ensures.met) (omega arith) c.if-not-make_room.ensures.answer c.if-not-make_room.ensures.room

pub returns-clause-met : goal.returns-clause-met
returns-clause-met g c = tries_all c.loop.invariant.1 (rw c.loop.invariant.0 at c.end-2.ensures.met) (omega arith)
