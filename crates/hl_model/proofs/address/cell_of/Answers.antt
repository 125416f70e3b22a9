use Rattle.std.proofs.Common.{◌*◌, ◌%◌, sym, ap, ap₂, ◌∙◌, arith}
use Rattle.hl_model.proofs.Masks.{remainder_is, place_is}
use Rattle.hl_model.proofs.address.cell_of.Goals as goal

pub returns-then-is_power_of_two-clause-value : goal.returns-then-is_power_of_two-clause-value
returns-then-is_power_of_two-clause-value g c = rw (sym c.sizes-sizes.ensures)
    let size = c.sizes-sizes.result.page_size in
    let frames = c.sizes-sizes.result.frames in
    remainder_is (c.frames.result * c.page_size.result) c.args.address (sym c.is_power_of_two.ensures ∙ c.if-is_power_of_two.true)
    ∙ ap (λ n. c.args.address % n) (ap₂ (λ x y. x * y) c.frames.ensures.value c.page_size.ensures.value)
    ∙ place_is size frames c.args.address (omega (arith, c.frames.ensures.valid.page_size_least)) (omega (arith, c.frames.ensures.valid.frames_least))

pub returns-else-is_power_of_two-clause-value : goal.returns-else-is_power_of_two-clause-value
returns-else-is_power_of_two-clause-value g c = rw (sym c.sizes-sizes.ensures)
    let size = c.sizes-sizes.result.page_size in
    let frames = c.sizes-sizes.result.frames in
    ap (λ n. c.args.address % n) (ap₂ (λ x y. x * y) c.frames.ensures.value c.page_size.ensures.value)
    ∙ place_is size frames c.args.address (omega (arith, c.frames.ensures.valid.page_size_least)) (omega (arith, c.frames.ensures.valid.frames_least))
