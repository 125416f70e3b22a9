use Rattle.test_crew.proofs.races.an_audit_sees_what_was_changed.Given as goal

-- the words, sizes and ledger of the seed that was just made, and the stamp of its domain
abbrev pub ghosts-audited-L-Realm : goal.ghosts-audited-L-Realm
ghosts-audited-L-Realm g a = record { table = a.seed.table; sizes = a.seed.sizes; stamp = 1000; limit = 100 }

abbrev pub ghosts-audited-L-Ledger : goal.ghosts-audited-L-Ledger
ghosts-audited-L-Ledger g a = record { name = a.seed.name; parts = a.seed.riders }
