use Rattle.std.proofs.Common.{◌≡◌, ◌∙◌, refl, ap, arith}
use Rattle.hl_model.specs.Sizes.{Sizes}
use Rattle.hl_lag.specs.Lag.{pages_up_to, read_only_at, head_at}
use Rattle.hl_lag.proofs.LagLaws.{pages_up_to-is, lag-lawful}
use Rattle.hl_lag.proofs.lag.lag_steps.Goals as goal

-- the size of a page
size_is : (g : _) (c : goal.After-push_if-4 g) → c.page_size-page_size.result ≡ (g.S.HasSizes.sizes_of c.args.params).page_size
size_is g c = c.page_size-page_size.ensures.value ∙ ap (λ (sizes : Sizes). sizes.page_size) c.sizes.ensures

-- the pages up to the tail
pages_is : (g : _) (c : goal.After-push_if-4 g) → c.div_ceil-pages.result ≡ pages_up_to (g.S.HasSizes.sizes_of c.args.params).page_size c.args.six.tail
pages_is g c = rw (c.div_ceil-pages.ensures, size_is g c)
    (pages_up_to-is (g.S.HasSizes.sizes_of c.args.params).page_size c.args.six.tail (omega (arith, size_is g c)))

-- where the read-only offset is raised to
read_only_is : (g : _) (c : goal.After-push_if-4 g) → c.max-read_only.result ≡ read_only_at (g.S.HasSizes.sizes_of c.args.params).page_size c.args.six c.args.mutable
read_only_is g c = rw (c.max-read_only.ensures, c.saturating_sub.ensures, pages_is g c, size_is g c) refl

-- where the head is shifted to
head_is : (g : _) (c : goal.After-push_if-4 g) → c.max-head.result ≡ head_at (g.S.HasSizes.sizes_of c.args.params).page_size c.args.six c.args.resident
head_is g c = rw (c.max-head.ensures, c.min.ensures, c.saturating_sub-2.ensures, pages_is g c, size_is g c) refl

pub returns-clause-steps : goal.returns-clause-steps
returns-clause-steps g c =
    rw (c.push_if-4.ensures.items, c.push_if-3.ensures.items, c.push_if-2.ensures.items, c.push_if.ensures.items, c.new-steps.ensures, read_only_is g c, head_is g c) refl

pub returns-clause-lawful : goal.returns-clause-lawful
returns-clause-lawful g c order = rw (returns-clause-steps g c)
    (lag-lawful (g.S.HasSizes.sizes_of c.args.params).page_size c.args.six c.args.mutable c.args.resident (omega (arith, size_is g c)) c.requires.mutable_least order)
