use Rattle.test_domain.proofs.opened.make_over.Given as goal

-- the words, sizes and ledger of the seed that was just made, and the stamp and the journal of its domain
abbrev pub ghosts-open_and_close-L-Realm : goal.ghosts-open_and_close-L-Realm
ghosts-open_and_close-L-Realm g a = record { table = a.seed.table; sizes = a.seed.sizes; stamp = 1000; limit = a.journal }

abbrev pub ghosts-open_and_close-L-Ledger : goal.ghosts-open_and_close-L-Ledger
ghosts-open_and_close-L-Ledger g a = record { name = a.seed.name; parts = a.seed.riders }
