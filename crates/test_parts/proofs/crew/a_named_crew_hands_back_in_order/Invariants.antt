use Rattle.test_parts.proofs.crew.a_named_crew_hands_back_in_order.Given as goal

-- the words, sizes and ledger of the seed that was just made, and the stamp of its log
abbrev pub ghosts-own_order-L-Realm : goal.ghosts-own_order-L-Realm
ghosts-own_order-L-Realm g a = record { table = a.seed.table; sizes = a.seed.sizes; stamp = 1; limit = 100 }

abbrev pub ghosts-own_order-L-Ledger : goal.ghosts-own_order-L-Ledger
ghosts-own_order-L-Ledger g a = record { name = a.seed.name; parts = a.seed.riders }
