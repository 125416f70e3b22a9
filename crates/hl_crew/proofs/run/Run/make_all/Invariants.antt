use Rattle.std.specs.Prelude.{is_none}
use Rattle.hl_crew.specs.Goes.{Going}
use Rattle.hl_crew.specs.Lags.{MakesNext}
use Rattle.hl_crew.proofs.run.Run.make_all.Given as goal

-- the steps so far were made
abbrev pub invariant-loop-step : goal.invariant-loop-step
invariant-loop-step g l =
    Going (MakesNext g.row.F.Denot l.self.domain.now (is_none l.self.channels) l.now l.steps) l.step-index l.fn.own l.own
