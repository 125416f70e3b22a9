use Rattle.hl_keeper.proofs.StepLaws.{refused_as}
use Rattle.hl_keeper.proofs.keeper.Keeper.done.Goals as goal

pub returns-in-Err-clause-made : goal.returns-in-Err-clause-made
returns-in-Err-clause-made g c =
    let made = rw (c.origin.ensures, c.ticket-ticket.ensures) at c.in-Err.ensures.made in
    λ A st. refused_as _ _ _ _ c.end.new.self c.in-Err.fault (made A st)

pub returns-in-Ok-clause-made : goal.returns-in-Ok-clause-made
returns-in-Ok-clause-made g c = rw (c.origin.ensures, c.ticket-ticket.ensures) at c.in-Ok.ensures.made
