use Rattle.std.specs.Prelude.{is_none}
use Rattle.hl_crew.specs.Goes.{Going}
use Rattle.hl_crew.specs.Runs.{TurnsNext}
use Rattle.hl_crew.proofs.run.Run.make_turns.Given as goal

-- none of the turns so far failed
abbrev pub invariant-loop : goal.invariant-loop
invariant-loop g l =
    Going (TurnsNext g.row.F.Denot l.self.domain.now l.self.limits (is_none l.self.channels)) l.counter
    l.initial.own l.own
