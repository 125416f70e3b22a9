use Rattle.test_crew.proofs.wide.a_crew_of_wide_sizes.Given as goal

-- the words and the ledger of the seed that was just made
abbrev pub ghosts-crew_of_wide_sizes-L-Realm : goal.ghosts-crew_of_wide_sizes-L-Realm
ghosts-crew_of_wide_sizes-L-Realm g a = record { table = a.seed.table; sizes = a.seed.sizes; stamp = 1000; limit = 10000 }

abbrev pub ghosts-crew_of_wide_sizes-L-Ledger : goal.ghosts-crew_of_wide_sizes-L-Ledger
ghosts-crew_of_wide_sizes-L-Ledger g a = record { name = a.seed.name; parts = a.seed.riders }
