use Rattle.hl_crew.proofs.Steps.{leaves}
use Rattle.hl_crew.proofs.run.Run.make.Goals as goal

pub returns-in-Raise : goal.returns-in-Raise
returns-in-Raise g c = rw c.in-Raise.is (leaves (λ before after h. (h.0, h.1.0)) c.raise.ensures.met)

pub returns-in-Shift : goal.returns-in-Shift
returns-in-Shift g c = rw c.in-Shift.is (leaves (λ before after h. (h.0, h.1.0)) c.shift.ensures.met)

pub returns-in-Settle : goal.returns-in-Settle
returns-in-Settle g c =
    rw (c.in-Settle.is, c.ticket_of.ensures) (leaves (λ before after h. (h.0, h.1)) c.bump.ensures.met)

pub returns-in-Close : goal.returns-in-Close
returns-in-Close g c =
    rw (c.in-Close.is, c.ticket_of-in-Close.ensures) (leaves (λ before after h. (h.0, h.1)) c.bump-in-Close.ensures.met)
