use Rattle.std.proofs.Common.{◌<◌, ◌≤◌, sym, ◌∙◌, ap, ap₂, arith, below_more, ◌≡◌, ◌/◌}
use Rattle.hl_model.proofs.SearchLaws.{le-div}
use Rattle.hl_model.specs.AfterPages.{flushed_run_after}
use Rattle.hl_plain.proofs.RunLaws.{run-passes, run-begun, run-is, run-all}
use Rattle.hl_plain.proofs.flushed.flushed_run.Goals as goal

pub returns-then-not-runs_at : goal.returns-then-not-runs_at
returns-then-not-runs_at c =
    sym (run-is c.args.base.now c.args.steps.now c.loop-p.p c.loop-p.invariant (sym c.runs_at.ensures ∙ c.if-not-runs_at.true))

pub loop-p-init : goal.loop-p-init
loop-p-init c = λ q below.
    let b = c.args.base.now in
    let L = c.args.steps.now in
    let page_size : c.page_size-page_size.result ≡ b.sizes.page_size = c.page_size-page_size.ensures.value ∙ ap (λ s. s.page_size) c.params.ensures in
    let some : 0 < b.sizes.page_size = omega (arith, c.page_size-page_size.ensures.valid.page_size_least, page_size, c.page_size-page_size.ensures.value) in
    let begun : c.six.result.flushed / c.page_size-page_size.result ≡ b.six.flushed / b.sizes.page_size = ap₂ (λ six n. six.flushed / n) c.six.ensures page_size in
    run-passes b L q (omega (arith, below, begun, run-begun b L some c.requires.least))

pub loop-p-preserved : goal.loop-p-preserved
loop-p-preserved c = below_more _ _ c.loop-p.invariant (sym c.runs_at.ensures ∙ c.if-not-runs_at.false)

pub returns : goal.returns
returns c =
    let b = c.args.base.now in
    let L = c.args.steps.now in
    let page_size : c.page_size-page_size.result ≡ b.sizes.page_size = c.page_size-page_size.ensures.value ∙ ap (λ s. s.page_size) c.params.ensures in
    let some : 0 < b.sizes.page_size = omega (arith, c.page_size-page_size.ensures.valid.page_size_least, page_size, c.page_size-page_size.ensures.value) in
    let begun : c.six.result.flushed / c.page_size-page_size.result ≡ b.six.flushed / b.sizes.page_size = ap₂ (λ six n. six.flushed / n) c.six.ensures page_size in
    let same : 281474976710656 / c.page_size-page_size.result ≡ 281474976710656 / b.sizes.page_size = ap (λ n. 281474976710656 / n) page_size in
    let within : c.six.result.flushed / c.page_size-page_size.result ≤ 281474976710656 / c.page_size-page_size.result
    = omega (arith, begun, same, run-begun b L some c.requires.least, le-div b.sizes.page_size (flushed_run_after b L) 281474976710656 some c.requires.most) in
    let all : c.loop-p.p ≡ 281474976710656 / c.page_size-page_size.result = omega (arith, c.loop-p-test.false, c.loop-p.auto.p-end within) in
    sym all ∙ run-all b L c.loop-p.p some (all ∙ same) c.requires.most c.loop-p.invariant
