use Rattle.std.proofs.lemmas.Result.{err_from_is_err_and}
use Rattle.hl_keeper.specs.Calls.{end_fault}
use Rattle.hl_keeper.proofs.StepLaws.{refused_at, fault_first, fault_second, same_faults}
use Rattle.hl_keeper.proofs.keeper.Keeper.end.Goals as goal

pub returns-in_err-own-clause-made : goal.returns-in_err-own-clause-made
unfolding end_fault
returns-in_err-own-clause-made g c =
    let q = err_from_is_err_and c.from_residual.result c.from_residual.ensures.1 in
    rw (q.1, q.2) (λ A st. refused_at _ A _ _ c.in_err-own.field-0.0 _ st (fault_first _ _ c.in_err-own.field-0.0 c.in_err-own.ensures))

pub returns-clause-made : goal.returns-clause-made
unfolding end_fault
returns-clause-made g c =
    λ A st. same_faults _ _ _ _ _ c.one.new.self c.one.result (fault_second _ _ c.in_ok-own.field-0 c.in_ok-own.ensures) (c.one.ensures.made A st)
