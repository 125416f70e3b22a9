use Rattle.test_crew.proofs.serves.a_crew_cuts_above_its_share.Given as goal

-- the words, sizes and ledger of the seed that was just made, and the stamp of its domain
abbrev pub ghosts-kept_and_cut-L-Realm : goal.ghosts-kept_and_cut-L-Realm
ghosts-kept_and_cut-L-Realm g a = record { table = a.seed.table; sizes = a.seed.sizes; stamp = 1000; limit = a.journal }

abbrev pub ghosts-kept_and_cut-L-Ledger : goal.ghosts-kept_and_cut-L-Ledger
ghosts-kept_and_cut-L-Ledger g a = record { name = a.seed.name; parts = a.seed.riders }
