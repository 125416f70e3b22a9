use Rattle.test_domain.proofs.follow.follow.Given as goal

-- the words, sizes and ledger of the seed that was just made, and the stamp of its domain
abbrev pub ghosts-follow_both-L-Realm : goal.ghosts-follow_both-L-Realm
ghosts-follow_both-L-Realm g a = record { table = a.one.table; sizes = a.one.sizes; stamp = 1000; limit = a.example.now.journal }

abbrev pub ghosts-follow_both-L-Ledger : goal.ghosts-follow_both-L-Ledger
ghosts-follow_both-L-Ledger g a = record { name = a.one.name; parts = a.one.riders }

abbrev pub ghosts-follow_both-M-Realm : goal.ghosts-follow_both-M-Realm
ghosts-follow_both-M-Realm g a = record { table = a.other.table; sizes = a.other.sizes; stamp = 1000; limit = a.example.now.journal }

abbrev pub ghosts-follow_both-M-Ledger : goal.ghosts-follow_both-M-Ledger
ghosts-follow_both-M-Ledger g a = record { name = a.other.name; parts = a.other.riders }

abbrev pub ghosts-follow_both-2-L-Realm : goal.ghosts-follow_both-2-L-Realm
ghosts-follow_both-2-L-Realm g a = record { table = a.one.table; sizes = a.one.sizes; stamp = 1000; limit = a.example.now.journal }

abbrev pub ghosts-follow_both-2-L-Ledger : goal.ghosts-follow_both-2-L-Ledger
ghosts-follow_both-2-L-Ledger g a = record { name = a.one.name; parts = a.one.riders }

abbrev pub ghosts-follow_both-2-M-Realm : goal.ghosts-follow_both-2-M-Realm
ghosts-follow_both-2-M-Realm g a = record { table = a.other.table; sizes = a.other.sizes; stamp = 1000; limit = a.example.now.journal }

abbrev pub ghosts-follow_both-2-M-Ledger : goal.ghosts-follow_both-2-M-Ledger
ghosts-follow_both-2-M-Ledger g a = record { name = a.other.name; parts = a.other.riders }
