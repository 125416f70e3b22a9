use Rattle.test_crew.proofs.busy.placed_by_duty.Given as goal

-- the words, sizes and ledger of the seed that was just made, and the stamp of its domain
abbrev pub ghosts-placed_and_written-L-Realm : goal.ghosts-placed_and_written-L-Realm
ghosts-placed_and_written-L-Realm g a = record { table = a.seed.table; sizes = a.seed.sizes; stamp = 1000; limit = 200000 }

abbrev pub ghosts-placed_and_written-L-Ledger : goal.ghosts-placed_and_written-L-Ledger
ghosts-placed_and_written-L-Ledger g a = record { name = a.seed.name; parts = a.seed.riders }
