use Rattle.test_crew.proofs.waits.a_crew_goes_on_where_no_action_is_ready.Given as goal

-- the words, sizes and ledger of the seed that was just made, and the stamp of its domain
abbrev pub ghosts-protected_slot-L-Realm : goal.ghosts-protected_slot-L-Realm
ghosts-protected_slot-L-Realm g a = record { table = a.seed.table; sizes = a.seed.sizes; stamp = 1000; limit = 100 }

abbrev pub ghosts-protected_slot-L-Ledger : goal.ghosts-protected_slot-L-Ledger
ghosts-protected_slot-L-Ledger g a = record { name = a.seed.name; parts = a.seed.riders }
