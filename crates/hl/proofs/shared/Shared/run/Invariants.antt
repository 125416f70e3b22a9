use Rattle.hl.proofs.shared.Shared.run.Given as goal

-- the words, the ledger and the sizes of the seed that was just made, and the log's stamp
abbrev pub ghosts-run_over-L-Realm : goal.ghosts-run_over-L-Realm
ghosts-run_over-L-Realm g a = record { table = a.seed.table; sizes = a.seed.sizes; stamp = a.opening.stamp; limit = a.opening.journal }

abbrev pub ghosts-run_over-L-Ledger : goal.ghosts-run_over-L-Ledger
ghosts-run_over-L-Ledger g a = record { name = a.seed.name; parts = a.seed.riders }
