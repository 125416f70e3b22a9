use Rattle.example_sums.proofs.anew.add_anew.Given as goal

-- the words, sizes and ledger of the seed that was just made, and the stamp and the journal's room of its domain
abbrev pub ghosts-add_over-L-Realm : goal.ghosts-add_over-L-Realm
ghosts-add_over-L-Realm g a = record { table = a.seed.table; sizes = a.seed.sizes; stamp = 2000; limit = 71 }

abbrev pub ghosts-add_over-L-Ledger : goal.ghosts-add_over-L-Ledger
ghosts-add_over-L-Ledger g a = record { name = a.seed.name; parts = a.seed.riders }
