use Rattle.test_crew.proofs.waits.a_crew_leaves_the_offsets_while_an_action_runs.Given as goal

-- the words, sizes and ledger of the seed that was just made, and the stamp of its domain
abbrev pub ghosts-taken_elsewhere-L-Realm : goal.ghosts-taken_elsewhere-L-Realm
ghosts-taken_elsewhere-L-Realm g a = record { table = a.seed.table; sizes = a.seed.sizes; stamp = 1000; limit = 100 }

abbrev pub ghosts-taken_elsewhere-L-Ledger : goal.ghosts-taken_elsewhere-L-Ledger
ghosts-taken_elsewhere-L-Ledger g a = record { name = a.seed.name; parts = a.seed.riders }
