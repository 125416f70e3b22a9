use Rattle.std.proofs.Common.{rules}
use Rattle.std.proofs.lemmas.Result.{err_from_is_err_and}
use Rattle.hl_keeper.proofs.StepLaws.{replied_as, refused_as, reply_is}
use Rattle.hl_keeper.proofs.keeper.Keeper.flush_take.Goals as goal

pub unreachable-requires : goal.unreachable-requires
unreachable-requires g c =
    let h = c.in_ok-page.ensures in
    c.in_default.not-Page _ (reply_is _ _ c.in_ok-page.field-0 _ c.one.new.self (h.made h.valid.0 h.valid.1))

pub returns-in_err-page-clause-made : goal.returns-in_err-page-clause-made
returns-in_err-page-clause-made g c A st =
    let p = err_from_is_err_and c.from_residual.result c.from_residual.ensures.1 in
    rw (p.1, p.2) (refused_as _ _ _ _ c.one.new.self c.in_err-page.field-0.0 (c.in_err-page.ensures.made A st))

pub returns-clause-made : goal.returns-clause-made
returns-clause-made g c A st = replied_as _ _ c.in_ok-page.field-0 _ c.one.new.self _ _ (c.in_ok-page.ensures.made A st) (λ none e. search rules)
