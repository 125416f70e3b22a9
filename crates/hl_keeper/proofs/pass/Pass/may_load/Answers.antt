use Rattle.std.proofs.Common.{ap, ◌∙◌}
use Rattle.hl_model.specs.Replies.{unless_fault}
use Rattle.hl_keeper.specs.Passes.{seen}
use Rattle.hl_keeper.proofs.PassLaws.{load_judged}
use Rattle.hl_keeper.proofs.pass.Pass.may_load.Goals as goal

pub returns : goal.returns
returns g c = c.may_load.ensures ∙ ap (λ o. unless_fault o (tt {0})) (load_judged c.args.self.now c.self.inside.own.view c.args.a (c.self.invariant.0 ∙ ap seen c.self.view_is))
