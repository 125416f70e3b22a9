use Rattle.std.proofs.Common.{◌<◌, ◌≤◌, ◌∙◌, ap, sym, arith, length}
use Rattle.std.proofs.lemmas.Grind.{common_steps}
use Rattle.std.proofs.lemmas.List.{take_all}
use Rattle.hl_model.specs.Lists.{least_or}
use Rattle.hl_plain.specs.Presents.{epochs_in}
use Rattle.hl_plain.proofs.LeastLaws.{least-some, least-none, least-begin}
use Rattle.hl_plain.proofs.safe.least_epoch.Goals.{in-Some, in_default}
use Rattle.hl_plain.proofs.safe.least_epoch.Goals as goal

pub loop-t-init : goal.loop-t-init
loop-t-init c = λ d. sym (least-begin c.args.present.now.slots d)

pub loop-t-preserved : goal.loop-t-preserved
loop-t-preserved c = λ d.
    let slots = c.args.present.now.slots in
    let long = ap (λ s. s.slots) c.params.ensures.value in
    let within : c.loop-t.t < length slots = omega (arith, long, c.loop-t-test.true, c.slots-t-end.ensures.value, c.params.ensures.slots) in
    elim c.match-slot.branch [
      | in-Some w ↦
          let next = least-some slots c.loop-t.t w.in-Some.slot d within w.in-Some.ensures in
          let before = c.loop-t.invariant w.in-Some.slot.epoch in
          grind (arith, common_steps)
      | in_default w ↦
          let next = least-none slots c.loop-t.t d within w.in_default.ensures in
          let before = c.loop-t.invariant d in
          cc
    ]

pub returns : goal.returns
returns c = λ d.
    let slots = c.args.present.now.slots in
    let long = ap (λ s. s.slots) c.params.ensures.value in
    let all : length slots ≤ c.loop-t.t = omega (arith, long, c.loop-t-test.false, c.slots-t-end.ensures.value, c.params.ensures.slots) in
    c.loop-t.invariant d ∙ ap (λ slots. least_or d (epochs_in slots)) (take_all c.loop-t.t slots all)
