use Rattle.test_runs.proofs.words.shared_words.Given as goal

-- the words, sizes and ledger of the seed that was just made, and any stamp
abbrev pub ghosts-two_riders-L-Realm : goal.ghosts-two_riders-L-Realm
ghosts-two_riders-L-Realm g a = record { table = a.seed.table; sizes = a.seed.sizes; stamp = 0; limit = 0 }

abbrev pub ghosts-two_riders-L-Ledger : goal.ghosts-two_riders-L-Ledger
ghosts-two_riders-L-Ledger g a = record { name = a.seed.name; parts = a.seed.riders }
