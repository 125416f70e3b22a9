use Rattle.test_crew.proofs.pouch.pouch_answers_once.Given as goal

-- the words and the ledger of the seed that was just made
abbrev pub ghosts-pouch_answers-L-Realm : goal.ghosts-pouch_answers-L-Realm
ghosts-pouch_answers-L-Realm g a = record { table = a.seed.table; sizes = a.seed.sizes; stamp = 1000; limit = 100 }

abbrev pub ghosts-pouch_answers-L-Ledger : goal.ghosts-pouch_answers-L-Ledger
ghosts-pouch_answers-L-Ledger g a = record { name = a.seed.name; parts = a.seed.riders }
