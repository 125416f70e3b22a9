use Rattle.std.proofs.Common.{refl, sym, ap, ap₂, ◌∙◌}
use Rattle.hl_model.specs.declared.step.Step.TheVariants.{FlushDone}
use Rattle.hl_laws.proofs.NoFaultLaws.{unless_ok}
use Rattle.hl_log.specs.Taken.{origin_fault}
use Rattle.hl_log.proofs.StandLaws.{makes_quiet, log_beside, ends_with}
use Rattle.hl_log.proofs.log.Log.flush_done.Goals as goal

pub invariant_of-self : goal.invariant_of-self
invariant_of-self c =
    let s = FlushDone c.page.inside.page c.args.ok in
    log_beside _ _ s _ c.self.invariant (makes_quiet _ _ s _ (record { raises = refl; shifts = refl; bumps = refl; ends = refl }) c.act.ensures.made refl) (record { shared = refl; master = refl; stamps = refl })

pub returns-clause-ended : goal.returns-clause-ended
returns-clause-ended c =
    let s = FlushDone c.page.inside.page c.args.ok in
    ends_with _ _ _ _ s _ _ c.self.view_is (ap (λ p. FlushDone p.page c.args.ok) c.page.view_is) (sym (ap₂ origin_fault c.self.view_is c.page.view_is) ∙ (unless_ok _ _ _ c.in_ok-is_of.ensures).0)
    (makes_quiet _ _ s _ (record { raises = refl; shifts = refl; bumps = refl; ends = refl }) c.act.ensures.made refl) (record { shared = refl; master = refl; stamps = refl })
