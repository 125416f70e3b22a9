use Rattle.std.proofs.Common.{arith, ◌<◌, length}
use Rattle.hl_model.specs.declared.step.Step.TheVariants.{Acquire}
use Rattle.hl_plain.proofs.TurnLaws.{tail-next, tail-none}
use Rattle.hl_plain.proofs.TailLaws.{tail_past-most}
use Rattle.hl_plain.proofs.offsets.tail.Goals as goal

pub loop-step-init : goal.loop-step-init
loop-step-init c = let none = tail-none c.args.base.now in cc

pub tail_past-end-requires : goal.tail_past-end-requires
tail_past-end-requires c =
    let within : c.loop-step.step-index < length c.args.steps.now = omega arith in
    let most = tail_past-most c.args.base.now c.args.steps.now c.loop-step.step-index (Acquire 0) within c.requires in
    rw (c.loop-step.invariant, c.params-params.ensures) most

pub loop-step-preserved : goal.loop-step-preserved
loop-step-preserved c =
    let within : c.loop-step.step-index < length c.args.steps.now = omega arith in
    let next = tail-next c.args.base.now c.args.steps.now c.loop-step.step-index (Acquire 0) within in
    cc
