use Rattle.hl.specs.Traces.{acts, IsFresh}
use Rattle.example_records.specs.Records.{Tells}
use Rattle.example_records.proofs.storing.StoringWork.run.Given as goal

-- the report so far tells what was done
abbrev pub invariant-loop-k : goal.invariant-loop-k
invariant-loop-k g l = IsFresh l.fn.session → Tells (acts l.session) l.report
