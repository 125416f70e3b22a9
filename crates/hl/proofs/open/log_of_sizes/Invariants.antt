use Rattle.hl.proofs.open.log_of_sizes.Given as goal

-- the words, the ledger and the sizes of the seed that was just made, and the log's stamp
abbrev pub ghosts-over-L-Realm : goal.ghosts-over-L-Realm
ghosts-over-L-Realm g a = record { table = a.seed.table; sizes = a.seed.sizes; stamp = a.opening.stamp; limit = a.opening.journal }

abbrev pub ghosts-over-L-Ledger : goal.ghosts-over-L-Ledger
ghosts-over-L-Ledger g a = record { name = a.seed.name; parts = a.seed.riders }
