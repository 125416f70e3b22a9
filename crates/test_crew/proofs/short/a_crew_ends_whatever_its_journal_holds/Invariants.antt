use Rattle.test_crew.proofs.short.a_crew_ends_whatever_its_journal_holds.Given as goal

-- the words, sizes and ledger of the seed that was just made, and the stamp of its domain
abbrev pub ghosts-steps_by-L-Realm : goal.ghosts-steps_by-L-Realm
ghosts-steps_by-L-Realm g a = record { table = a.seed.table; sizes = a.seed.sizes; stamp = 1000; limit = a.journal }

abbrev pub ghosts-steps_by-L-Ledger : goal.ghosts-steps_by-L-Ledger
ghosts-steps_by-L-Ledger g a = record { name = a.seed.name; parts = a.seed.riders }
