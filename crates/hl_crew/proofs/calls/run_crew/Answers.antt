use Rattle.std.proofs.Common.{refl}
use Rattle.hl_crew.proofs.StateLaws.{stays_of}
use Rattle.hl_crew.proofs.calls.run_crew.Goals as goal

-- the four riders and the two page writers are the crew's
pub returns-in-Ok-report-clause-works : goal.returns-in-Ok-report-clause-works
returns-in-Ok-report-clause-works g c = record {
  given = _;
  riders_were = c.of-riders.ensures;
  writers_were = refl;
  crew = c.run-crew.result.0;
  riders_are = refl;
  writers_are = refl;
  worked = rw (c.in-Ok-report.is, c.of_run-limits.ensures) at c.run-crew.ensures.works;
}

pub returns-in-Ok-report-clause-stay : goal.returns-in-Ok-report-clause-stay
returns-in-Ok-report-clause-stay g c = (stays_of _ _ _ _ _ (rw c.of_run-limits.ensures at c.run-crew.ensures.kept.stay) c.of-riders.ensures, tt)

pub returns-in-Err-clause-stay : goal.returns-in-Err-clause-stay
returns-in-Err-clause-stay g c = (tt, stays_of _ _ _ _ _ (rw c.of_run-limits.ensures at c.run-crew.ensures.kept.stay) c.of-riders.ensures)
