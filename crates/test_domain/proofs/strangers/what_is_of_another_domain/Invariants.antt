use Rattle.test_domain.proofs.strangers.what_is_of_another_domain.Given as goal

-- the words, sizes and ledger of the seed that was just made, and the stamp of its domain
abbrev pub ghosts-strangers-L-Realm : goal.ghosts-strangers-L-Realm
ghosts-strangers-L-Realm g a = record { table = a.first.table; sizes = a.first.sizes; stamp = 1000; limit = 100 }

abbrev pub ghosts-strangers-L-Ledger : goal.ghosts-strangers-L-Ledger
ghosts-strangers-L-Ledger g a = record { name = a.first.name; parts = a.first.riders }

abbrev pub ghosts-strangers-M-Realm : goal.ghosts-strangers-M-Realm
ghosts-strangers-M-Realm g a = record { table = a.second.table; sizes = a.second.sizes; stamp = 2000; limit = 100 }

abbrev pub ghosts-strangers-M-Ledger : goal.ghosts-strangers-M-Ledger
ghosts-strangers-M-Ledger g a = record { name = a.second.name; parts = a.second.riders }

abbrev pub ghosts-strangers-2-L-Realm : goal.ghosts-strangers-2-L-Realm
ghosts-strangers-2-L-Realm g a = record { table = a.first.table; sizes = a.first.sizes; stamp = 1000; limit = 100 }

abbrev pub ghosts-strangers-2-L-Ledger : goal.ghosts-strangers-2-L-Ledger
ghosts-strangers-2-L-Ledger g a = record { name = a.first.name; parts = a.first.riders }

abbrev pub ghosts-strangers-2-M-Realm : goal.ghosts-strangers-2-M-Realm
ghosts-strangers-2-M-Realm g a = record { table = a.second.table; sizes = a.second.sizes; stamp = 2000; limit = 100 }

abbrev pub ghosts-strangers-2-M-Ledger : goal.ghosts-strangers-2-M-Ledger
ghosts-strangers-2-M-Ledger g a = record { name = a.second.name; parts = a.second.riders }
