use Rattle.hl_images.proofs.CopyLaws.{flushed_by_two}
use Rattle.hl_images.proofs.pair.answer_for_copier.Goals as goal

pub returns-clause-flushed : goal.returns-clause-flushed
returns-clause-flushed g c image list taking telling copier t w h p s written =
    flushed_by_two c.args.domain.now.sizes c.args.load.page c.args.written c.args.past c.args.flusher.now c.tell_past.new.rider c.flush_done.new.rider c.flush_done.result c.tell_past.ensures c.flush_done.ensures.met image list taking telling copier t w h p s written
