use Rattle.hl_line.proofs.Texts.{spelling_short, spelling_free}
use Rattle.hl_line.proofs.laws.spellings_are_short.Goals as goal

pub returns-clause-short : goal.returns-clause-short
returns-clause-short c = spelling_short

pub returns-clause-no_line_feed : goal.returns-clause-no_line_feed
returns-clause-no_line_feed c = spelling_free
