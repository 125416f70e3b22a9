use Rattle.std.proofs.Common.{arith}
use Rattle.hl_crew.proofs.GoesLaws.{going_more, going_handed_on}
use Rattle.hl_crew.proofs.run.Run.run_actions.Goals as goal

pub loop-preserved : goal.loop-preserved
loop-preserved g c = going_more _ _ _ _ _ _ c.loop.invariant c.in_ok-run_action.ensures c.if-not-branch.false

pub returns-in_err-run_action : goal.returns-in_err-run_action
returns-in_err-run_action g c =
    going_handed_on _ _ _ _ _ _ _ _ (omega arith) c.loop.invariant c.in_err-run_action.ensures c.from_residual.ensures.1
