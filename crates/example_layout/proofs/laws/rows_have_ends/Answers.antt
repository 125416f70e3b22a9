use Rattle.example_layout.proofs.Rows.{row_ends, same_live}
use Rattle.example_layout.proofs.laws.rows_have_ends.Goals as goal

pub returns : goal.returns
returns c = record { ends = row_ends; same = same_live }
