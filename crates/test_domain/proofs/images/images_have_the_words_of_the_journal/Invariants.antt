use Rattle.test_domain.proofs.images.images_have_the_words_of_the_journal.Given as goal

-- the words, sizes and ledger of the seed that was just made, and the stamp of its domain
abbrev pub ghosts-flush_in_a_crowd-L-Realm : goal.ghosts-flush_in_a_crowd-L-Realm
ghosts-flush_in_a_crowd-L-Realm g a = record { table = a.seed.table; sizes = a.seed.sizes; stamp = 1000; limit = 2097152 }

abbrev pub ghosts-flush_in_a_crowd-L-Ledger : goal.ghosts-flush_in_a_crowd-L-Ledger
ghosts-flush_in_a_crowd-L-Ledger g a = record { name = a.seed.name; parts = a.seed.riders }

abbrev pub ghosts-flush_in_a_crowd-2-L-Realm : goal.ghosts-flush_in_a_crowd-2-L-Realm
ghosts-flush_in_a_crowd-2-L-Realm g a = record { table = a.seed.table; sizes = a.seed.sizes; stamp = 1000; limit = 2097152 }

abbrev pub ghosts-flush_in_a_crowd-2-L-Ledger : goal.ghosts-flush_in_a_crowd-2-L-Ledger
ghosts-flush_in_a_crowd-2-L-Ledger g a = record { name = a.seed.name; parts = a.seed.riders }
