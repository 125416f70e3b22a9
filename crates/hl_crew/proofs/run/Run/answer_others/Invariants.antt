use Rattle.std.proofs.Common.{◌≡◌, ℕ, ◌+◌}
use Rattle.hl_crew.specs.Flushes.{hold_of, FailsNext}
use Rattle.hl_crew.specs.Goes.{Going}
use Rattle.hl_crew.specs.Pouches.{load_count}
use Rattle.hl_crew.proofs.run.Run.answer_others.Given as goal

-- those that are held no longer were answered as failed
abbrev pub invariant-loop-page : goal.invariant-loop-page
invariant-loop-page g l =
    (answered : ℕ) × (load_count l.pouch + answered ≡ load_count l.initial.pouch)
    × Going (FailsNext g.row.F.Denot l.self.domain.now) answered
    (hold_of l.initial.own l.initial.pouch) (hold_of l.own l.pouch)

-- each turn answers one of the pages that are left
abbrev pub decreases-loop-page : goal.decreases-loop-page
decreases-loop-page g l = load_count l.pouch
