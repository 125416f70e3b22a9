use Rattle.std.proofs.Common.{◌-◌}
use Rattle.std.specs.Prelude.{bit_and}
use Rattle.hl_model.proofs.Masks.{remainder_is}
use Rattle.hl_offsets.proofs.Places.{place-here, place-next}
use Rattle.hl_offsets.proofs.offsets.Offsets.place_for.Goals as goal

pub returns-then-before-n-clause-place : goal.returns-then-before-n-clause-place
returns-then-before-n-clause-place c =
    let log = c.self.inside in
    rw (← c.self.view_is) (place-here log.page_size log.tail c.args.n (bit_and log.tail (log.page_size - 1)) (remainder_is log.page_size log.tail c.self.invariant.page_size_power) c.if-before-n.true)

pub returns-else-before-n-clause-place : goal.returns-else-before-n-clause-place
returns-else-before-n-clause-place c =
    let log = c.self.inside in
    rw (← c.self.view_is) (place-next log.page_size log.tail c.args.n (bit_and log.tail (log.page_size - 1)) (remainder_is log.page_size log.tail c.self.invariant.page_size_power) c.if-before-n.false)
