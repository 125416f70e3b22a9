use Rattle.test_domain.proofs.refusals.a_bump_without_room.Given as goal

-- the words, sizes and ledger of the seed that was just made, and the stamp of its domain
abbrev pub ghosts-full_journal-L-Realm : goal.ghosts-full_journal-L-Realm
ghosts-full_journal-L-Realm g a = record { table = a.seed.table; sizes = a.seed.sizes; stamp = 2000; limit = 1 }

abbrev pub ghosts-full_journal-L-Ledger : goal.ghosts-full_journal-L-Ledger
ghosts-full_journal-L-Ledger g a = record { name = a.seed.name; parts = a.seed.riders }

abbrev pub ghosts-full_journal-2-L-Realm : goal.ghosts-full_journal-2-L-Realm
ghosts-full_journal-2-L-Realm g a = record { table = a.seed.table; sizes = a.seed.sizes; stamp = 2000; limit = 1 }

abbrev pub ghosts-full_journal-2-L-Ledger : goal.ghosts-full_journal-2-L-Ledger
ghosts-full_journal-2-L-Ledger g a = record { name = a.seed.name; parts = a.seed.riders }
