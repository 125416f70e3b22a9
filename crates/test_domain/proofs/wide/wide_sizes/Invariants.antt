use Rattle.test_domain.proofs.wide.wide_sizes.Given as goal

-- the words, sizes and ledgers of the seeds that were just made, and the stamp of their domains
abbrev pub ghosts-both-L-Realm : goal.ghosts-both-L-Realm
ghosts-both-L-Realm g a = record { table = a.one.table; sizes = a.one.sizes; stamp = 1000; limit = 5000 }

abbrev pub ghosts-both-L-Ledger : goal.ghosts-both-L-Ledger
ghosts-both-L-Ledger g a = record { name = a.one.name; parts = a.one.riders }

abbrev pub ghosts-both-M-Realm : goal.ghosts-both-M-Realm
ghosts-both-M-Realm g a = record { table = a.other.table; sizes = a.other.sizes; stamp = 1000; limit = 5000 }

abbrev pub ghosts-both-M-Ledger : goal.ghosts-both-M-Ledger
ghosts-both-M-Ledger g a = record { name = a.other.name; parts = a.other.riders }

abbrev pub ghosts-both-2-L-Realm : goal.ghosts-both-2-L-Realm
ghosts-both-2-L-Realm g a = record { table = a.one.table; sizes = a.one.sizes; stamp = 1000; limit = 5000 }

abbrev pub ghosts-both-2-L-Ledger : goal.ghosts-both-2-L-Ledger
ghosts-both-2-L-Ledger g a = record { name = a.one.name; parts = a.one.riders }

abbrev pub ghosts-both-2-M-Realm : goal.ghosts-both-2-M-Realm
ghosts-both-2-M-Realm g a = record { table = a.other.table; sizes = a.other.sizes; stamp = 1000; limit = 5000 }

abbrev pub ghosts-both-2-M-Ledger : goal.ghosts-both-2-M-Ledger
ghosts-both-2-M-Ledger g a = record { name = a.other.name; parts = a.other.riders }
