use Rattle.example_layout.proofs.Rows.{same_piece}
use Rattle.example_layout.proofs.laws.pieces_are_told.Goals as goal

pub returns : goal.returns
returns c = same_piece
