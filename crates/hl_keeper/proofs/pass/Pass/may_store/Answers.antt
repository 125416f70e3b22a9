use Rattle.std.proofs.Common.{ap, ◌∙◌, sym}
use Rattle.std.proofs.lemmas.Result.{err_from_is_err_and}
use Rattle.hl_model.specs.Replies.{unless_fault}
use Rattle.hl_keeper.specs.Passes.{seen}
use Rattle.hl_keeper.proofs.PassLaws.{store_refused, store_allowed}
use Rattle.hl_keeper.proofs.pass.Pass.may_store.Goals as goal

pub returns-in_err-may_store-clause-answer : goal.returns-in_err-may_store-clause-answer
returns-in_err-may_store-clause-answer g c =
    let q = err_from_is_err_and c.from_residual.result c.from_residual.ensures.1 in
    rw (q.1, q.2) (store_refused c.args.self.now c.self.inside.own.view c.args.a (c.self.invariant.0 ∙ ap seen c.self.view_is) c.in_err-may_store.field-0.0 c.in_err-may_store.ensures)

pub returns-clause-answer : goal.returns-clause-answer
returns-clause-answer g c =
    c.may_touch.ensures.answer ∙ sym (ap (λ o. unless_fault o (tt {0})) (store_allowed c.args.self.now c.self.inside.own.view c.args.a (c.self.invariant.0 ∙ ap seen c.self.view_is) c.in_ok-may_store.field-0 c.in_ok-may_store.ensures))
