use Rattle.hl.specs.Traces.{acts}
use Rattle.example_records.specs.Records.{KeepsTold}
use Rattle.example_records.proofs.access.append.Given as goal

abbrev pub invariant-loop : goal.invariant-loop
invariant-loop g l = KeepsTold (acts l.fn.session) (acts l.session)
