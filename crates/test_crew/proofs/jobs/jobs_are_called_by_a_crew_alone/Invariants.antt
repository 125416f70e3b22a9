use Rattle.test_crew.proofs.jobs.jobs_are_called_by_a_crew_alone.Given as goal

-- the words, sizes and ledger of the seed that was just made, and the stamp of its domain
abbrev pub ghosts-calls_until-L-Realm : goal.ghosts-calls_until-L-Realm
ghosts-calls_until-L-Realm g a = record { table = a.seed.table; sizes = a.seed.sizes; stamp = 1000; limit = 100 }

abbrev pub ghosts-calls_until-L-Ledger : goal.ghosts-calls_until-L-Ledger
ghosts-calls_until-L-Ledger g a = record { name = a.seed.name; parts = a.seed.riders }
