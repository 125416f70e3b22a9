use Rattle.std.proofs.Common.{length, sym, ap, ◌∙◌, arith}
use Rattle.hl_model.specs.Bases.{Base}
use Rattle.hl_model.specs.Sizes.{Sizes}
use Rattle.hl_laws.specs.BaseRows.{base_in}
use Rattle.hl_laws.proofs.BaseRooms.{length-slots, length-frames, actions-fit}
use Rattle.hl_laws.proofs.base.Base.renew.Goals as goal

pub refill_slots-requires-clause-told : goal.refill_slots-requires-clause-told
refill_slots-requires-clause-told g c =
    let told = g.Q.Quantities.tells c.args.quantities.now in
    length-slots told c.requires.base ∙ ap (λ (s : Sizes). s.slots) c.requires.sizes ∙ sym (ap (λ (b : Base). b.sizes.slots) c.self.view_is) ∙ sym c.slots.ensures.value

pub refill_waiting-requires : goal.refill_waiting-requires
refill_waiting-requires g c =
    omega (arith, actions-fit (g.Q.Quantities.tells c.args.quantities.now) c.requires.base, ap (λ (s : Sizes). s.drain) c.requires.sizes, ap (λ (b : Base). b.sizes.drain) c.self.view_is, c.self.invariant.waiting_room)

pub refill-requires : goal.refill-requires
refill-requires g c =
    let told = g.Q.Quantities.tells c.args.quantities.now in
    omega (arith, ap length c.taken_row.ensures, actions-fit told c.requires.base, ap (λ (s : Sizes). s.drain) c.requires.sizes, ap (λ (b : Base). b.sizes.drain) c.self.view_is, c.self.invariant.taken_room)

pub refill_frames-requires-clause-told : goal.refill_frames-requires-clause-told
refill_frames-requires-clause-told g c =
    let told = g.Q.Quantities.tells c.args.quantities.now in
    length-frames told c.requires.base ∙ ap (λ (s : Sizes). s.frames) c.requires.sizes ∙ sym (ap (λ (b : Base). b.sizes.frames) c.self.view_is) ∙ sym c.frames.ensures.value

pub refill_frames-requires-clause-filled : goal.refill_frames-requires-clause-filled
refill_frames-requires-clause-filled g c = length-frames (base_in c.self.inside) c.self.invariant.base ∙ sym c.frames.ensures.value
