use Rattle.test_crew.proofs.waits.a_crew_hands_back_in_order.Given as goal

-- the words, sizes and ledger of the seed that was just made, and the stamp of its domain
abbrev pub ghosts-own_order-L-Realm : goal.ghosts-own_order-L-Realm
ghosts-own_order-L-Realm g a = record { table = a.seed.table; sizes = a.seed.sizes; stamp = 1000; limit = 100 }

abbrev pub ghosts-own_order-L-Ledger : goal.ghosts-own_order-L-Ledger
ghosts-own_order-L-Ledger g a = record { name = a.seed.name; parts = a.seed.riders }
