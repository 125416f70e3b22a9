use Rattle.std.proofs.Common.{refl, get_or}
use Rattle.hl_model.specs.declared.step.Step.TheVariants.{Acquire}
use Rattle.hl_keeper.proofs.EnterLaws.{noted_next, next_fits}
use Rattle.hl_keeper.proofs.call.note_all.Goals as goal

pub note-requires : goal.note-requires
note-requires c = next_fits c.args.journal.now c.loop-step.journal c.args.steps.now c.loop-step.step-index c.loop-step.invariant c.requires c.loop-step-test.true

pub loop-step-preserved : goal.loop-step-preserved
loop-step-preserved c =
    noted_next c.args.journal.now c.loop-step.journal c.note.new.self c.args.steps.now c.loop-step.step-index (get_or c.args.steps.now c.loop-step.step-index (Acquire 0)) (Acquire 0) c.loop-step.invariant c.loop-step-test.true refl c.note.ensures
