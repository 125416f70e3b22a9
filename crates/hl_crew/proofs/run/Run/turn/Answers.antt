use Rattle.std.proofs.Common.{refl}
use Rattle.std.proofs.lemmas.Result.{err_from_is_err_and}
use Rattle.hl_crew.proofs.GoesLaws.{then_second, then_failed}
use Rattle.hl_crew.proofs.run.Run.turn.Goals as goal

pub returns-in_err-run_actions : goal.returns-in_err-run_actions
returns-in_err-run_actions g c =
    let p = err_from_is_err_and c.from_residual-in_err-run_actions.result c.from_residual-in_err-run_actions.ensures.1 in
    rw (p.1, p.2) (then_second _ _ _ _ _ _ c.in_ok-keep_lag.ensures (then_failed _ _ _ _ _ (c.in_err-run_actions.ensures, refl)))

pub returns-in_err-flush_sent : goal.returns-in_err-flush_sent
returns-in_err-flush_sent g c =
    let p = err_from_is_err_and c.from_residual-in_err-flush_sent.result c.from_residual-in_err-flush_sent.ensures.1 in
    rw (p.1, p.2)
    (then_second _ _ _ _ _ _ c.in_ok-keep_lag.ensures (then_second _ _ _ _ (record c.keep_lag.new.own { rider = c.run_actions.new.rider }) _ (c.in_ok-run_actions.ensures, refl) (then_failed _ _ _ _ _ c.in_err-flush_sent.ensures)))
