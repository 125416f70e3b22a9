use Rattle.example_turns.proofs.after.bump_after_anew.Given as goal

-- the words, sizes and ledger of the seed that was just made, and the stamp and the journal's room of its domain
abbrev pub ghosts-bump_over-L-Realm : goal.ghosts-bump_over-L-Realm
ghosts-bump_over-L-Realm g a = record { table = a.seed.table; sizes = a.seed.sizes; stamp = 2001; limit = 2 }

abbrev pub ghosts-bump_over-L-Ledger : goal.ghosts-bump_over-L-Ledger
ghosts-bump_over-L-Ledger g a = record { name = a.seed.name; parts = a.seed.riders }
