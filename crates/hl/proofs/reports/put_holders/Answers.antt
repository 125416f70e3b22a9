use Rattle.hl_line.proofs.Growing.{Grows-part, BreaksOff-part}
use Rattle.hl.proofs.ReportLaws.{holders-drop}
use Rattle.hl.proofs.reports.put_holders.Goals as goal

pub returns-in-Err-clause-left : goal.returns-in-Err-clause-left
returns-in-Err-clause-left g c =
    BreaksOff-part _ _ _ _ _ _ _ c.loop-holder.invariant (holders-drop c.args.holders.now c.loop-holder.holder-index _ c.loop-holder-test.true) c.in-Err.ensures.left

pub loop-holder-preserved : goal.loop-holder-preserved
loop-holder-preserved g c =
    Grows-part _ _ _ _ _ _ _ c.loop-holder.invariant c.in-Ok.ensures.ok (holders-drop c.args.holders.now c.loop-holder.holder-index _ c.loop-holder-test.true)
