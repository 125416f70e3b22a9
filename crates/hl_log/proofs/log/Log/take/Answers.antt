use Rattle.std.proofs.Common.{refl}
use Rattle.hl_model.specs.declared.step.Step.TheVariants.{Take}
use Rattle.hl_log.proofs.StandLaws.{makes_quiet, makes_at, log_beside}
use Rattle.hl_log.proofs.log.Log.take.Goals as goal

pub invariant_of-self : goal.invariant_of-self
invariant_of-self c = log_beside _ _ Take _ c.self.invariant (makes_quiet _ _ Take _ (record { raises = refl; shifts = refl; bumps = refl; ends = refl }) c.take.ensures.made refl) (record { shared = refl; master = refl; stamps = refl })

pub returns-clause-made : goal.returns-clause-made
returns-clause-made c = makes_at _ _ _ Take Take _ _ c.self.view_is refl refl (makes_quiet _ _ Take _ (record { raises = refl; shifts = refl; bumps = refl; ends = refl }) c.take.ensures.made refl)
