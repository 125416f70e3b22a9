use Rattle.std.proofs.Common.{◌≡◌, ◌∙◌, sym, ap, arith}
use Rattle.std.specs.Prelude.{None, Some, option_map, slice_index_or}
use Rattle.hl_model.specs.Bases.{Base}
use Rattle.hl_model.specs.AfterOffsets.{tail_after}
use Rattle.hl_model.specs.AfterPages.{marked_after}
use Rattle.hl_plain.proofs.PresentLaws.{tail-at, held-at, held-past}
use Rattle.hl_plain.proofs.present.Present.held_below.Goals as goal

pub returns-then-f-frames-clause-held : goal.returns-then-f-frames-clause-held
returns-then-f-frames-clause-held c =
    let b = c.self.inside.base.now in
    let frames : c.frames.result ≡ b.sizes.frames = c.frames.ensures.value ∙ ap (λ s. s.frames) c.params.ensures in
    held-past b c.self.inside.steps.now c.args.f (omega (arith, frames, c.if-f-frames.true)) ∙ ap (λ (v : Base). slice_index_or v.frames c.args.f None) c.self.view_is

pub returns-in_err-page-clause-held : goal.returns-in_err-page-clause-held
returns-in_err-page-clause-held c =
    let b = c.self.inside.base.now in
    let L = c.self.inside.steps.now in
    let frames : c.frames.result ≡ b.sizes.frames = c.frames.ensures.value ∙ ap (λ s. s.frames) c.params.ensures in
    let tail : c.args.tail ≡ tail_after b L = c.requires ∙ sym (ap (λ (v : Base). v.six.tail) c.self.view_is) ∙ tail-at b L in
    c.from_residual.ensures
    ∙ ap (option_map (marked_after b L)) (sym c.in_err-page.was ∙ c.last_entered.ensures.page L tail)
    ∙ held-at b L c.args.f (omega (arith, frames, c.if-f-frames.false))
    ∙ ap (λ (v : Base). slice_index_or v.frames c.args.f None) c.self.view_is

pub returns-clause-held : goal.returns-clause-held
returns-clause-held c =
    let b = c.self.inside.base.now in
    let L = c.self.inside.steps.now in
    let frames : c.frames.result ≡ b.sizes.frames = c.frames.ensures.value ∙ ap (λ s. s.frames) c.params.ensures in
    let tail : c.args.tail ≡ tail_after b L = c.requires ∙ sym (ap (λ (v : Base). v.six.tail) c.self.view_is) ∙ tail-at b L in
    ap Some c.marked-held.ensures
    ∙ ap (option_map (marked_after b L)) (sym c.in_ok-page.was ∙ c.last_entered.ensures.page L tail)
    ∙ held-at b L c.args.f (omega (arith, frames, c.if-f-frames.false))
    ∙ ap (λ (v : Base). slice_index_or v.frames c.args.f None) c.self.view_is
