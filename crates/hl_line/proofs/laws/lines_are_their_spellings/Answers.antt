use Rattle.hl_line.proofs.Reading.{line_of-found, line_of-only}
use Rattle.hl_line.proofs.laws.lines_are_their_spellings.Goals as goal

pub returns : goal.returns
returns c = λ s l. (line_of-found s l, λ h. line_of-only s l h.0 h.1)
