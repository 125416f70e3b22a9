use Rattle.std.proofs.Common.{refl, sym, ap}
use Rattle.hl_model.specs.declared.step.Step.TheVariants.{FlushTake, CleanTake}
use Rattle.hl_log.specs.Taken.{taking}
use Rattle.hl_log.proofs.StandLaws.{makes_quiet, makes_at, log_beside}
use Rattle.hl_log.proofs.log.Log.take_number.Goals as goal

pub invariant_of-self : goal.invariant_of-self
invariant_of-self c = log_beside _ _ CleanTake _ c.self.invariant (makes_quiet _ _ CleanTake _ (record { raises = refl; shifts = refl; bumps = refl; ends = refl }) c.clean_take.ensures.made refl) (record { shared = refl; master = refl; stamps = refl })

pub invariant_of-self-else-cleans : goal.invariant_of-self-else-cleans
invariant_of-self-else-cleans c = log_beside _ _ FlushTake _ c.self.invariant (makes_quiet _ _ FlushTake _ (record { raises = refl; shifts = refl; bumps = refl; ends = refl }) c.flush_take.ensures.made refl) (record { shared = refl; master = refl; stamps = refl })

pub returns-then-cleans-clause-made : goal.returns-then-cleans-clause-made
returns-then-cleans-clause-made c = makes_at _ _ _ CleanTake _ _ _ c.self.view_is (sym (ap taking c.if-cleans.true)) refl (makes_quiet _ _ CleanTake _ (record { raises = refl; shifts = refl; bumps = refl; ends = refl }) c.clean_take.ensures.made refl)

pub returns-else-cleans-clause-made : goal.returns-else-cleans-clause-made
returns-else-cleans-clause-made c = makes_at _ _ _ FlushTake _ _ _ c.self.view_is (sym (ap taking c.if-cleans.false)) refl (makes_quiet _ _ FlushTake _ (record { raises = refl; shifts = refl; bumps = refl; ends = refl }) c.flush_take.ensures.made refl)
