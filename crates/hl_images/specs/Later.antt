-- A rider that did more.
use Rattle.std.specs.Prelude.{◌≡◌, List, ◌++◌}
use Rattle.hl_history.specs.declared.view.Entry.{Entry}
use Rattle.hl_words.specs.Seats.{HasPast}
use Rattle.hl_words.specs.States.{RiderState}

-- the one state of a rider is a later one of the other: it has all its touches and calls, and perhaps more since
pub record IsLater (old new : RiderState) : Type 0 where
  pub name : new.view.name ≡ old.view.name
  pub touches : HasPast old.view.touches new.view
  pub more : List Entry
  pub calls : new.calls ≡ more ++ old.calls
