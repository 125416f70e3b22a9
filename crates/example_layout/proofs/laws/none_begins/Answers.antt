use Rattle.example_layout.proofs.Rows.{none_begins}
use Rattle.example_layout.proofs.laws.none_begins.Goals as goal

pub returns : goal.returns
returns c = none_begins
