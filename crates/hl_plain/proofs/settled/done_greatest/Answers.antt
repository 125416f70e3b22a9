use Rattle.std.proofs.Common.{arith, ◌<◌, ◌≡◌, true, false, length, sym}
use Rattle.std.proofs.lemmas.Grind.{common_steps}
use Rattle.hl_model.specs.Actions.{is_finished}
use Rattle.hl_model.specs.AfterActions.{ever_taken_after}
use Rattle.hl_plain.proofs.StoredLaws.{given_by, given-done, given-undone, given-none, given-all}
use Rattle.hl_plain.proofs.settled.done_greatest.Goals.{then-is_finished, else-is_finished}
use Rattle.hl_plain.proofs.settled.done_greatest.Goals as goal

pub loop-i-init : goal.loop-i-init
loop-i-init g c = λ s told. sym (given-none (given_by s c.args.steps.now) (ever_taken_after c.args.base.now c.args.steps.now))

pub loop-i-preserved : goal.loop-i-preserved
loop-i-preserved g c = λ s told.
    let L = c.args.steps.now in
    let T = ever_taken_after c.args.base.now L in
    let w = c.ever_taken_at-action.result in
    let within : c.loop-i.i < length T = omega (arith, c.loop-i-test.true, c.ever_taken-i-end.ensures) in
    let before = c.loop-i.invariant s told in
    elim c.if-is_finished.branch [
      | then-is_finished h ↦
          let done : is_finished w.ticket L ≡ true = cc in
          let next = given-done s L T c.loop-i.i w within c.ever_taken_at-action.ensures done in
          let gives = told w.kind h.stored.result h.stored.ensures in
          grind (arith, common_steps)
      | else-is_finished h ↦
          let left : is_finished w.ticket L ≡ false = cc in
          let next = given-undone s L T c.loop-i.i w within c.ever_taken_at-action.ensures left in
          grind (arith, common_steps)
    ]

pub returns : goal.returns
returns g c = λ s told.
    given-all s c.args.base.now c.args.steps.now c.loop-i.i c.loop-i.most (omega (arith, c.loop-i-test.false, c.ever_taken-i-end.ensures)) (c.loop-i.invariant s told)
