use Rattle.std.proofs.Common.{◌≡◌, ◌∙◌, ap, arith}
use Rattle.hl_model.specs.Bases.{Base, slot_in}
use Rattle.hl_plain.proofs.PresentLaws.{slot-at, slot-past}
use Rattle.hl_plain.proofs.present.Present.slot.Goals as goal

pub returns-then-t-slots : goal.returns-then-t-slots
returns-then-t-slots c =
    let b = c.self.inside.base.now in
    let slots : c.slots.result ≡ b.sizes.slots = c.slots.ensures.value ∙ ap (λ s. s.slots) c.params.ensures in
    c.slot.ensures ∙ slot-at b c.self.inside.steps.now c.args.t (omega (arith, slots, c.if-t-slots.true)) ∙ ap (λ (v : Base). slot_in v c.args.t) c.self.view_is

pub returns-else-t-slots : goal.returns-else-t-slots
returns-else-t-slots c =
    let b = c.self.inside.base.now in
    let slots : c.slots.result ≡ b.sizes.slots = c.slots.ensures.value ∙ ap (λ s. s.slots) c.params.ensures in
    slot-past b c.self.inside.steps.now c.args.t (omega (arith, slots, c.if-t-slots.false)) ∙ ap (λ (v : Base). slot_in v c.args.t) c.self.view_is
