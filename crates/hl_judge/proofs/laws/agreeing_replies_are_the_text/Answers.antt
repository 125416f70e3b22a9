use Rattle.hl_judge.proofs.AgreeLaws.{text_told, lines_told}
use Rattle.hl_judge.proofs.laws.agreeing_replies_are_the_text.Goals as goal

pub returns : goal.returns
returns c = record { text = text_told; lines = lines_told }
