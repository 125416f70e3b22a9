use Rattle.std.proofs.Common.{ap, ◌∙◌, length}
use Rattle.hl_keeper.specs.Passes.{PassRecord}
use Rattle.hl_keeper.proofs.PassLaws.{touches_full, touches_room}
use Rattle.hl_keeper.proofs.pass.Pass.may_touch.Goals as goal

pub returns-then-len-eq-TOUCHES_MOST-clause-answer : goal.returns-then-len-eq-TOUCHES_MOST-clause-answer
returns-then-len-eq-TOUCHES_MOST-clause-answer g c = touches_full c.args.self.now c.len.result (c.len.ensures.value ∙ ap (λ (p : PassRecord). length p.touches) c.self.view_is) c.if-len-eq-TOUCHES_MOST.true

pub returns-clause-answer : goal.returns-clause-answer
returns-clause-answer g c = touches_room c.args.self.now c.len.result (c.len.ensures.value ∙ ap (λ (p : PassRecord). length p.touches) c.self.view_is) c.if-len-eq-TOUCHES_MOST.false
