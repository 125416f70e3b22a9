use Rattle.example_passing.proofs.anew.pass_anew.Given as goal

-- the words, sizes and ledger of the seed that was just made
abbrev pub ghosts-pass_over-L-Realm : goal.ghosts-pass_over-L-Realm
ghosts-pass_over-L-Realm g a = record { table = a.seed.table; sizes = a.seed.sizes; stamp = 0; limit = 0 }

abbrev pub ghosts-pass_over-L-Ledger : goal.ghosts-pass_over-L-Ledger
ghosts-pass_over-L-Ledger g a = record { name = a.seed.name; parts = a.seed.riders }
