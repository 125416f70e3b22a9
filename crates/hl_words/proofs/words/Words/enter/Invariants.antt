use Rattle.hl_words.proofs.words.Words.enter.Given as goal

abbrev pub ghosts-call_at : goal.ghosts-call_at
ghosts-call_at g a = record { left = record { steps = a.steps; cut = a.cut } }
