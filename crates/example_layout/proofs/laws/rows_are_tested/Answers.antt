use Rattle.example_layout.proofs.Rows.{rows_tested}
use Rattle.example_layout.proofs.laws.rows_are_tested.Goals as goal

pub returns : goal.returns
returns c = rows_tested
