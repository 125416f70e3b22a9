use Rattle.hl.proofs.ConfigLaws.{in_range_of_run, serves_of_run, sizes_in_range}
use Rattle.hl.proofs.FinishedTrace.{finished_one}
use Rattle.hl.proofs.finished.run_threads.Goals as goal

pub run_over-requires-clause-range : goal.run_over-requires-clause-range
run_over-requires-clause-range g c κs within = in_range_of_run _ c.in-Ok.both.1 c.in-Ok.ensures.runs

pub run_over-requires-clause-duty : goal.run_over-requires-clause-duty
run_over-requires-clause-duty g c κs within = serves_of_run _ c.in-Ok.both.1 c.in-Ok.ensures.runs

pub returns-clause-one : goal.returns-clause-one
returns-clause-one g c fit = finished_one _ _ _ _ _ _ _ _ _ (λ old new out flushes. flushes.pads) (sizes_in_range _ fit) (rw c.in-Ok.ensures.opening at c.run_over.ensures.finished)
