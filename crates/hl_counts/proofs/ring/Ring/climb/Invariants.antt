use Rattle.std.proofs.Common.{◌≡◌, ℕ, ◌+◌, ◌-◌, ◌<◌, ◌≤◌}
use Rattle.hl_counts.specs.declared.placed.Placed.{Placed}
use Rattle.hl_counts.specs.Tallies.{RingRecord, count_at, HasPlace}
use Rattle.hl_counts.proofs.ring.Ring.climb.Given as goal

-- the epoch climbed over empty places, one turn each
pub record HasClimbed (from risen : Placed) (current : ℕ) (old new : RingRecord) : Type 0 where
  pub placed : HasPlace risen old.counts
  pub rises : from.epoch ≤ risen.epoch
  pub stays : risen.epoch ≤ current
  pub passed : (e : ℕ) → from.epoch ≤ e → e < risen.epoch → count_at e old.counts ≡ 0
  pub counts : new.counts ≡ old.counts
  pub turns : new.turns ≡ old.turns + (risen.epoch - from.epoch)

abbrev pub invariant-loop-risen : goal.invariant-loop-risen
invariant-loop-risen l = HasClimbed l.fn.from l.risen l.current l.fn.self l.self

abbrev pub decreases-loop-risen : goal.decreases-loop-risen
decreases-loop-risen l = l.current - l.risen.epoch
