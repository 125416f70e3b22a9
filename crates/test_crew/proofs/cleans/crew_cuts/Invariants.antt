use Rattle.test_crew.proofs.cleans.crew_cuts.Given as goal

-- the words and the ledger of the seed that was just made
abbrev pub ghosts-crew_left-L-Realm : goal.ghosts-crew_left-L-Realm
ghosts-crew_left-L-Realm g a = record { table = a.seed.table; sizes = a.seed.sizes; stamp = 1000; limit = 100 }

abbrev pub ghosts-crew_left-L-Ledger : goal.ghosts-crew_left-L-Ledger
ghosts-crew_left-L-Ledger g a = record { name = a.seed.name; parts = a.seed.riders }
