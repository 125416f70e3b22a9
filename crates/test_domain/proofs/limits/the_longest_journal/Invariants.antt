use Rattle.test_domain.proofs.limits.the_longest_journal.Given as goal

-- the words, sizes and ledger of the seed that was just made, and the stamp of its domain
abbrev pub ghosts-longest_journal-L-Realm : goal.ghosts-longest_journal-L-Realm
ghosts-longest_journal-L-Realm g a = record { table = a.seed.table; sizes = a.seed.sizes; stamp = 1000; limit = 4611686018427387904 }

abbrev pub ghosts-longest_journal-L-Ledger : goal.ghosts-longest_journal-L-Ledger
ghosts-longest_journal-L-Ledger g a = record { name = a.seed.name; parts = a.seed.riders }

abbrev pub ghosts-longest_journal-2-L-Realm : goal.ghosts-longest_journal-2-L-Realm
ghosts-longest_journal-2-L-Realm g a = record { table = a.seed.table; sizes = a.seed.sizes; stamp = 1000; limit = 4611686018427387904 }

abbrev pub ghosts-longest_journal-2-L-Ledger : goal.ghosts-longest_journal-2-L-Ledger
ghosts-longest_journal-2-L-Ledger g a = record { name = a.seed.name; parts = a.seed.riders }
