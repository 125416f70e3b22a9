use Rattle.hl_plain.proofs.FrameLaws.{marked-is}
use Rattle.hl_plain.proofs.frames.marked.Goals as goal

pub returns : goal.returns
returns c =
    marked-is c.args.base.now c.args.steps.now c.args.page _ _ c.is_complete.result c.is_out.result c.is_complete-2.result c.is_out-2.result c.requires.flushes c.requires.cleans
    c.is_complete.ensures c.is_out.ensures c.is_complete-2.ensures c.is_out-2.ensures
