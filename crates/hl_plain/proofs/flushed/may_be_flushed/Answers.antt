use Rattle.std.proofs.Common.{◌∙◌, ap, ap₂, arith, ◌≡◌, ◌/◌, ◌+◌, ltb}
use Rattle.hl_model.specs.Pages.{flushes_below}
use Rattle.hl_model.specs.Lists.{greatest}
use Rattle.hl_plain.proofs.RunLaws.{any_greatest, below_first, below_second}
use Rattle.hl_plain.proofs.flushed.may_be_flushed.Goals as goal

pub returns-then-p-six : goal.returns-then-p-six
returns-then-p-six c =
    let b = c.args.base.now in
    let page_size : c.page_size.result ≡ b.sizes.page_size = c.page_size.ensures.value ∙ ap (λ s. s.page_size) c.params.ensures in
    let end : c.six.result.tail / c.page_size.result + 1 ≡ b.six.tail / b.sizes.page_size + 1 = ap₂ (λ six page_size. six.tail / page_size + 1) c.six.ensures page_size in
    ap (ltb c.args.p) end ∙ below_first c.args.p (b.six.tail / b.sizes.page_size + 1) (greatest flushes_below c.args.steps.now) (omega (arith, end, c.if-p-six.true))

pub returns-else-p-six : goal.returns-else-p-six
returns-else-p-six c =
    let b = c.args.base.now in
    let page_size : c.page_size.result ≡ b.sizes.page_size = c.page_size.ensures.value ∙ ap (λ s. s.page_size) c.params.ensures in
    let end : c.six.result.tail / c.page_size.result + 1 ≡ b.six.tail / b.sizes.page_size + 1 = ap₂ (λ six page_size. six.tail / page_size + 1) c.six.ensures page_size in
    c.is_flushed_from.ensures ∙ any_greatest c.args.p flushes_below c.args.steps.now
    ∙ below_second c.args.p (b.six.tail / b.sizes.page_size + 1) (greatest flushes_below c.args.steps.now) (omega (arith, end, c.if-p-six.false))
