use Rattle.test_domain.proofs.crowd.threads_in_two_domains.Given as goal

-- the words, sizes and ledger of the seed that was just made, and the stamp of its domain
abbrev pub ghosts-two_domains-L-Realm : goal.ghosts-two_domains-L-Realm
ghosts-two_domains-L-Realm g a = record { table = a.first.table; sizes = a.first.sizes; stamp = 1000; limit = 10000 }

abbrev pub ghosts-two_domains-L-Ledger : goal.ghosts-two_domains-L-Ledger
ghosts-two_domains-L-Ledger g a = record { name = a.first.name; parts = a.first.riders }

abbrev pub ghosts-two_domains-M-Realm : goal.ghosts-two_domains-M-Realm
ghosts-two_domains-M-Realm g a = record { table = a.second.table; sizes = a.second.sizes; stamp = 2000; limit = 10000 }

abbrev pub ghosts-two_domains-M-Ledger : goal.ghosts-two_domains-M-Ledger
ghosts-two_domains-M-Ledger g a = record { name = a.second.name; parts = a.second.riders }

abbrev pub ghosts-two_domains-2-L-Realm : goal.ghosts-two_domains-2-L-Realm
ghosts-two_domains-2-L-Realm g a = record { table = a.first.table; sizes = a.first.sizes; stamp = 1000; limit = 10000 }

abbrev pub ghosts-two_domains-2-L-Ledger : goal.ghosts-two_domains-2-L-Ledger
ghosts-two_domains-2-L-Ledger g a = record { name = a.first.name; parts = a.first.riders }

abbrev pub ghosts-two_domains-2-M-Realm : goal.ghosts-two_domains-2-M-Realm
ghosts-two_domains-2-M-Realm g a = record { table = a.second.table; sizes = a.second.sizes; stamp = 2000; limit = 10000 }

abbrev pub ghosts-two_domains-2-M-Ledger : goal.ghosts-two_domains-2-M-Ledger
ghosts-two_domains-2-M-Ledger g a = record { name = a.second.name; parts = a.second.riders }
