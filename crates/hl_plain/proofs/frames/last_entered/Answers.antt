use Rattle.std.proofs.Common.{◌≡◌, ◌-◌, ◌/◌, ◌%◌, ap, ap₂, ◌∙◌, arith}
use Rattle.hl_model.specs.AfterOffsets.{tail_after}
use Rattle.hl_plain.proofs.FrameLaws.{entered-last, entered-empty, entered-few}
use Rattle.hl_plain.proofs.frames.last_entered.Goals as goal

pub returns-in_err-last-clause-page : goal.returns-in_err-last-clause-page
returns-in_err-last-clause-page c L tail =
    c.from_residual.ensures ∙ entered-empty c.args.base.now c.args.f L (omega (arith, c.in_err-last.ensures, tail))

pub returns-in_err-back-clause-page : goal.returns-in_err-back-clause-page
returns-in_err-back-clause-page c L tail =
    let b = c.args.base.now in
    let page_size : c.page_size.result ≡ b.sizes.page_size = c.page_size.ensures.value ∙ ap (λ s. s.page_size) c.params-params.ensures in
    let last : c.in_ok-last.field-0 / c.page_size.result ≡ (tail_after b L - 1) / b.sizes.page_size = ap₂ (λ x y. x / y) (omega (arith, c.in_ok-last.ensures, tail)) page_size in
    c.from_residual-in_err-back.ensures ∙ entered-few b c.args.f L c.requires.page_size (omega (arith, last, c.in_err-back.ensures))

pub returns-clause-page : goal.returns-clause-page
returns-clause-page c L tail =
    let b = c.args.base.now in
    let page_size : c.page_size.result ≡ b.sizes.page_size = c.page_size.ensures.value ∙ ap (λ s. s.page_size) c.params-params.ensures in
    let frames : c.frames.result ≡ b.sizes.frames = c.frames.ensures.value ∙ ap (λ s. s.frames) c.params-params.ensures in
    let last : c.in_ok-last.field-0 / c.page_size.result ≡ (tail_after b L - 1) / b.sizes.page_size = ap₂ (λ x y. x / y) (omega (arith, c.in_ok-last.ensures, tail)) page_size in
    let back : c.in_ok-back.field-0 % c.frames.result ≡ (c.in_ok-last.field-0 / c.page_size.result - c.args.f) % b.sizes.frames = ap₂ (λ x y. x % y) (omega (arith, c.in_ok-back.ensures)) frames in
    entered-last b c.args.f L (c.in_ok-last.field-0 / c.page_size.result) _ c.requires.page_size c.requires.frame (omega (arith, c.in_ok-last.ensures, tail)) last (omega (arith, c.in_ok-back.ensures))
    (ap (λ x. c.in_ok-last.field-0 / c.page_size.result - x) back)
