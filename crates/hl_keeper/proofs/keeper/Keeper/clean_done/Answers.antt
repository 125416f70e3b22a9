use Rattle.hl_keeper.proofs.StepLaws.{refused_as, replied_as}
use Rattle.hl_keeper.proofs.keeper.Keeper.clean_done.Goals as goal

pub returns-in-Err-clause-made : goal.returns-in-Err-clause-made
returns-in-Err-clause-made g c =
    let made = rw (c.stamp.ensures, c.page-page.ensures) at c.in-Err.ensures.made in
    λ A st. refused_as _ _ _ _ c.end.new.self c.in-Err.fault (made A st)

pub returns-in-Ok-clause-made : goal.returns-in-Ok-clause-made
returns-in-Ok-clause-made g c =
    let made = rw (c.stamp.ensures, c.page-page.ensures) at c.in-Ok.ensures.made in
    λ A st. replied_as _ _ c.in-Ok.field-0 _ c.end.new.self c.page-page.result _ (made A st) (λ none e. c.page-page.ensures)
