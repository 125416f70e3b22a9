use Rattle.test_domain.proofs.limits.the_last_stamp.Given as goal

-- the words, sizes and ledger of the seed that was just made, and the stamp of its domain
abbrev pub ghosts-last_stamp-L-Realm : goal.ghosts-last_stamp-L-Realm
ghosts-last_stamp-L-Realm g a = record { table = a.seed.table; sizes = a.seed.sizes; stamp = 4611686018427387904; limit = 100 }

abbrev pub ghosts-last_stamp-L-Ledger : goal.ghosts-last_stamp-L-Ledger
ghosts-last_stamp-L-Ledger g a = record { name = a.seed.name; parts = a.seed.riders }

abbrev pub ghosts-last_stamp-2-L-Realm : goal.ghosts-last_stamp-2-L-Realm
ghosts-last_stamp-2-L-Realm g a = record { table = a.seed.table; sizes = a.seed.sizes; stamp = 4611686018427387904; limit = 100 }

abbrev pub ghosts-last_stamp-2-L-Ledger : goal.ghosts-last_stamp-2-L-Ledger
ghosts-last_stamp-2-L-Ledger g a = record { name = a.seed.name; parts = a.seed.riders }
