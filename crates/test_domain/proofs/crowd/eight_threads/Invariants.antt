use Rattle.test_domain.proofs.crowd.eight_threads.Given as goal

-- the words, sizes and ledger of the seed that was just made, and the stamp of its domain
abbrev pub ghosts-crowd-L-Realm : goal.ghosts-crowd-L-Realm
ghosts-crowd-L-Realm g a = record { table = a.seed.table; sizes = a.seed.sizes; stamp = 1000; limit = 2097152 }

abbrev pub ghosts-crowd-L-Ledger : goal.ghosts-crowd-L-Ledger
ghosts-crowd-L-Ledger g a = record { name = a.seed.name; parts = a.seed.riders }

abbrev pub ghosts-crowd-2-L-Realm : goal.ghosts-crowd-2-L-Realm
ghosts-crowd-2-L-Realm g a = record { table = a.seed.table; sizes = a.seed.sizes; stamp = 1000; limit = 2097152 }

abbrev pub ghosts-crowd-2-L-Ledger : goal.ghosts-crowd-2-L-Ledger
ghosts-crowd-2-L-Ledger g a = record { name = a.seed.name; parts = a.seed.riders }
