use Rattle.std.proofs.Common.{rules, refl, sym, ap, ap₂, ◌∙◌}
use Rattle.hl_model.specs.declared.step.Step.TheVariants.{CleanDone}
use Rattle.hl_laws.proofs.NoFaultLaws.{unless_ok}
use Rattle.hl_log.specs.States.{LogState, PageState}
use Rattle.hl_log.specs.Taken.{unswept_fault}
use Rattle.hl_log.proofs.StandLaws.{makes_quiet, log_beside, ends_with, unswept_none}
use Rattle.hl_log.proofs.log.Log.clean_done.Goals as goal

pub invariant_of-self : goal.invariant_of-self
invariant_of-self c =
    let s = CleanDone c.page.inside.page in
    log_beside _ _ s _ c.self.invariant (makes_quiet _ _ s _ (record { raises = refl; shifts = refl; bumps = refl; ends = refl }) c.act.ensures.made refl) (record { shared = refl; master = refl; stamps = refl })

pub returns-clause-ended : goal.returns-clause-ended
returns-clause-ended c =
    let s = CleanDone c.page.inside.page in
    let old : LogState = record { core = c.self.inside.core; stamps = c.self.inside.stamps; shared = c.self.inside.shared.value; master = c.self.inside.master } in
    let page : PageState = record { shared = c.page.inside.shared.value; origin = c.page.inside.origin; page = c.page.inside.page; cleans = c.page.inside.cleans; swept = c.page.inside.swept; rider = c.page.inside.rider } in
    ends_with old _ _ _ s _ _ c.self.view_is (ap (λ p. CleanDone p.page) c.page.view_is) (sym (ap₂ unswept_fault c.self.view_is c.page.view_is) ∙ unswept_none old page (unless_ok _ _ _ c.in_ok-is_of.ensures).0 (search rules))
    (makes_quiet _ _ s _ (record { raises = refl; shifts = refl; bumps = refl; ends = refl }) c.act.ensures.made refl) (record { shared = refl; master = refl; stamps = refl })
