use Rattle.hl_race.proofs.race.run_race_within.Given as goal

-- the words, the ledger and the sizes of the seed that was just made, and the domain's stamp
abbrev pub ghosts-race_over-L-Realm : goal.ghosts-race_over-L-Realm
ghosts-race_over-L-Realm g a = record { table = a.seed.table; sizes = a.seed.sizes; stamp = 1000; limit = a.journal }

abbrev pub ghosts-race_over-L-Ledger : goal.ghosts-race_over-L-Ledger
ghosts-race_over-L-Ledger g a = record { name = a.seed.name; parts = a.seed.riders }
