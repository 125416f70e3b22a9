use Rattle.std.proofs.Common.{◌≡◌, ℕ, ◌<◌, true}
use Rattle.hl_plain.specs.Works.{runs_at}
use Rattle.hl_plain.proofs.flushed.flushed_run.Given as goal

abbrev pub invariant-loop-p : goal.invariant-loop-p
invariant-loop-p l = (q : ℕ) → q < l.p → runs_at l.base l.steps q ≡ true
