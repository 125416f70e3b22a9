use Rattle.test_domain.proofs.refusals.close_with_a_rider_missing.Given as goal

-- the words, sizes and ledger of the seed that was just made, and the stamp of its domain
abbrev pub ghosts-held_pass-L-Realm : goal.ghosts-held_pass-L-Realm
ghosts-held_pass-L-Realm g a = record { table = a.seed.table; sizes = a.seed.sizes; stamp = 2000; limit = 100 }

abbrev pub ghosts-held_pass-L-Ledger : goal.ghosts-held_pass-L-Ledger
ghosts-held_pass-L-Ledger g a = record { name = a.seed.name; parts = a.seed.riders }

abbrev pub ghosts-held_pass-2-L-Realm : goal.ghosts-held_pass-2-L-Realm
ghosts-held_pass-2-L-Realm g a = record { table = a.seed.table; sizes = a.seed.sizes; stamp = 2000; limit = 100 }

abbrev pub ghosts-held_pass-2-L-Ledger : goal.ghosts-held_pass-2-L-Ledger
ghosts-held_pass-2-L-Ledger g a = record { name = a.seed.name; parts = a.seed.riders }
