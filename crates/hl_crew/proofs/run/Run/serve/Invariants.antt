use Rattle.std.proofs.Common.{ℕ}
use Rattle.std.specs.Prelude.{is_none}
use Rattle.hl_crew.specs.Goes.{Going}
use Rattle.hl_crew.specs.Runs.{ServesNext, serve_of}
use Rattle.hl_crew.proofs.run.Run.serve.Given as goal

-- none of the turns so far failed
abbrev pub invariant-loop : goal.invariant-loop
invariant-loop g l =
    (goal.iterator-loop g).can_next l.iterator' × (goal.iterator-loop g).is_finite l.iterator'
    × ((turns : ℕ) × Going (ServesNext g.row.F.Denot l.self.domain.now l.self.limits (is_none l.self.channels)) turns
    (serve_of l.fn.own 0) (serve_of l.own l.vain))
