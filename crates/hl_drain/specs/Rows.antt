-- The lists that two rows hold.
use Rattle.std.specs.Prelude.{◌≡◌, ◌≤◌}
use Rattle.hl_drain.specs.declared.drain.Drain.TheInside.{Inside}
use Rattle.hl_drain.specs.Lists.{Lists, IsDrain}

module _ {J : Type 0} where
  -- the rows' entries in order
  abbrev pub lists_of : Inside J → Lists J
  lists_of a = record {
    limit = a.limit;
    pending = a.pending.ring.items;
    taken = a.taken.items;
    turns = a.last_take;
  }

  -- the lists are in order, each row has the places that it was opened with, and a take visits at most one
  pub record IsKept (a : Inside J) : Type 0 where
    pub lists : IsDrain (lists_of a)
    pub places_pending : a.pending.ring.capacity ≡ a.limit
    pub places_taken : a.taken.places ≡ a.limit
    pub turns : a.last_take ≤ 1
