use Rattle.std.proofs.Common.{[], replicate, ap, ◌∙◌, arith, None}
use Rattle.hl_laws.proofs.AcceptedLaws.{good-nil}
use Rattle.hl_laws.proofs.BaseStart.{all_zeros, opening-base}
use Rattle.hl_laws.proofs.base.Base.of_sizes.Goals as goal

pub invariant_of-result : goal.invariant_of-result
invariant_of-result c =
    let sizes = c.args.params in
    let d = c.default.ensures in
    let zeros = all_zeros c.default.result d.0 d.1.0 d.1.1.0 d.1.1.1.0 d.1.1.1.1.0 d.1.1.1.1.1 in
    let slots = c.in_ok-slots.ensures.items ∙ ap (λ n. replicate n None) c.slots.ensures.value in
    let frames = c.in_ok-frames.ensures.items ∙ ap (λ n. replicate n None) c.frames.ensures.value in
    record {
      base = record { steps = []; accepted = good-nil sizes; is = opening-base sizes _ _ _ _ _ c.slots.ensures.valid slots c.in_ok-waiting.ensures.empty c.in_ok-taken.ensures.empty zeros frames };
      slots_room = c.in_ok-slots.ensures.exact ∙ c.slots.ensures.value;
      waiting_room = omega (arith, c.in_ok-waiting.ensures.room);
      taken_room = omega (arith, c.in_ok-taken.ensures.room);
      frames_room = c.in_ok-frames.ensures.exact ∙ c.frames.ensures.value;
    }

pub returns-clause-ok : goal.returns-clause-ok
returns-clause-ok c =
    let sizes = c.args.params in
    let d = c.default.ensures in
    let zeros = all_zeros c.default.result d.0 d.1.0 d.1.1.0 d.1.1.1.0 d.1.1.1.1.0 d.1.1.1.1.1 in
    let slots = c.in_ok-slots.ensures.items ∙ ap (λ n. replicate n None) c.slots.ensures.value in
    let frames = c.in_ok-frames.ensures.items ∙ ap (λ n. replicate n None) c.frames.ensures.value in
    opening-base sizes _ _ _ _ _ c.slots.ensures.valid slots c.in_ok-waiting.ensures.empty c.in_ok-taken.ensures.empty zeros frames
