use Rattle.std.proofs.Common.{ℕ}
use Rattle.hl_crew.specs.Goes.{Followed}
use Rattle.hl.specs.Rests.{EntersNext}
use Rattle.hl.proofs.session.away.enter_again.Given as goal

-- some tries to enter were refused, and the journal was cut as is due after each
abbrev pub invariant-loop : goal.invariant-loop
invariant-loop g l =
    (goal.iterator-loop g).can_next l.iterator' × (goal.iterator-loop g).is_finite l.iterator'
    × ((refused : ℕ) × Followed (EntersNext g.row.F.Denot l.fn.log l.fn.cuts) refused l.fn.rider l.rider)
