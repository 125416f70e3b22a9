use Rattle.std.proofs.Common.{refl}
use Rattle.hl_crew.proofs.run.Run.send_page.Goals as goal

pub returns-in-Err-NoneSealed-clause-sends : goal.returns-in-Err-NoneSealed-clause-sends
returns-in-Err-NoneSealed-clause-sends g c = ((rw c.in-Err-NoneSealed.field-0-is at c.in-Err-NoneSealed.ensures.met, refl), refl)
