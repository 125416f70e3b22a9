use Rattle.std.proofs.lemmas.Result.{err_from_is_err_and}
use Rattle.hl_keeper.proofs.StepLaws.{refused_as, replied_as, raised_is}
use Rattle.hl_keeper.proofs.keeper.Keeper.raise.Goals as goal

pub returns-in_err-one-clause-made : goal.returns-in_err-one-clause-made
returns-in_err-one-clause-made g c A st =
    let p = err_from_is_err_and c.from_residual.result c.from_residual.ensures.1 in
    rw (p.1, p.2) (refused_as _ _ _ _ c.one.new.self c.in_err-one.field-0.0 (c.in_err-one.ensures.made A st))

pub returns-clause-made : goal.returns-clause-made
returns-clause-made g c A st = replied_as _ _ c.in_ok-one.field-0 _ c.one.new.self c.args.x _ (c.in_ok-one.ensures.made A st) (λ none e. raised_is c.args.self.now A c.args.x none)
