use Rattle.std.proofs.Common.{arith, ◌+◌, ◌<◌, ◌∙◌, length, sym, ap, take, drop, ◌++◌, ◌∷◌, []}
use Rattle.std.proofs.lemmas.List.{take_all, drop_all, length_push, length-take}
use Rattle.hl_model.specs.Actions.{takes}
use Rattle.hl_model.specs.AfterActions.{stored_after, waiting_after}
use Rattle.hl_plain.proofs.StoredLaws.{waiting-next, waiting-most}
use Rattle.hl_plain.proofs.actions.waiting.Goals as goal

pub loop-i-init : goal.loop-i-init
loop-i-init c =
    let S = stored_after c.args.base.now c.args.steps.now in
    c.new-row.ensures ∙ sym (drop_all (takes c.args.steps.now) (take c.takes-taken.result S) (omega (arith, length-take c.takes-taken.result S, c.takes-taken.ensures.value)))

pub push-requires : goal.push-requires
push-requires c =
    let b = c.args.base.now in
    let L = c.args.steps.now in
    let next = waiting-next b L c.loop-i.i c.stored_at.result (omega (arith, c.loop-i.auto.i, c.takes-taken.ensures.value)) (omega (arith, c.loop-i-test.true, c.stored-i-end.ensures)) c.stored_at.ensures in
    let long = ap length next ∙ length_push (drop (takes L) (take c.loop-i.i (stored_after b L))) c.stored_at.result in
    let room : length c.loop-i.row.items < 64 = omega (arith, long, ap length c.loop-i.invariant, waiting-most b L (c.loop-i.i + 1), c.requires.most) in
    (omega arith, room)

pub loop-i-preserved : goal.loop-i-preserved
loop-i-preserved c =
    let next = waiting-next c.args.base.now c.args.steps.now c.loop-i.i c.stored_at.result (omega (arith, c.loop-i.auto.i, c.takes-taken.ensures.value)) (omega (arith, c.loop-i-test.true, c.stored-i-end.ensures)) c.stored_at.ensures in
    c.push.ensures.items ∙ ap (λ l. l ++ c.stored_at.result ∷ []) c.loop-i.invariant ∙ sym next

pub returns : goal.returns
unfolding waiting_after
returns c =
    let S = stored_after c.args.base.now c.args.steps.now in
    c.loop-i.invariant ∙ ap (drop (takes c.args.steps.now)) (take_all c.loop-i.i S (omega (arith, c.loop-i-test.false, c.stored-i-end.ensures)))
