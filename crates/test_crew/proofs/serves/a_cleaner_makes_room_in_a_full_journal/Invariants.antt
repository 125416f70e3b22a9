use Rattle.test_crew.proofs.serves.a_cleaner_makes_room_in_a_full_journal.Given as goal

-- the words, sizes and ledger of the seed that was just made, and the stamp of its domain
abbrev pub ghosts-cleaned_at_a_full_journal-L-Realm : goal.ghosts-cleaned_at_a_full_journal-L-Realm
ghosts-cleaned_at_a_full_journal-L-Realm g a = record { table = a.seed.table; sizes = a.seed.sizes; stamp = 1000; limit = 15 }

abbrev pub ghosts-cleaned_at_a_full_journal-L-Ledger : goal.ghosts-cleaned_at_a_full_journal-L-Ledger
ghosts-cleaned_at_a_full_journal-L-Ledger g a = record { name = a.seed.name; parts = a.seed.riders }
