use Rattle.std.proofs.Common.{Ok, Err, refl, ap}
use Rattle.hl_crew.proofs.run.Run.end_by.Goals as goal

pub returns-in-Ok : goal.returns-in-Ok
returns-in-Ok g c = (Ok c.in-Ok.field-0, refl, rw c.makes_room.ensures at c.in-Ok.ensures.met)

pub returns : goal.returns
returns g c = (Err c.in-Err.fault, ap (λ over. Err over) c.of.ensures, rw c.makes_room.ensures at c.in-Err.ensures.met)
