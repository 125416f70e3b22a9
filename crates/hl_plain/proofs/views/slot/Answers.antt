use Rattle.hl_model.specs.Epochs.{mark, up_to_mark}
use Rattle.hl_plain.proofs.TailLaws.{TailFits-take}
use Rattle.hl_plain.proofs.views.slot.Goals as goal

pub present-requires : goal.present-requires
unfolding up_to_mark
present-requires c =
    rw c.up_to_mark-before.ensures (TailFits-take c.args.base.now c.args.steps.now (mark c.args.t c.args.steps.now) c.requires.tail)
