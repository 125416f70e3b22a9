use Rattle.hl_images.proofs.CopyLaws.{flushed}
use Rattle.hl_images.proofs.copying.answer_copy.Goals as goal

pub returns-clause-flushed : goal.returns-clause-flushed
returns-clause-flushed g c image list h written =
    flushed c.args.domain.now.sizes c.args.load.page c.args.written c.args.rider.now c.flush_done.new.rider c.flush_done.result c.flush_done.ensures.met image list h written
