-- The taken actions as they lie in a row, behind a gap.
use Rattle.std.specs.Prelude.{◌≡◌, ℕ, ◌*◌, ◌<◌, ◌≤◌, List, length, drop, map, vec_capacity}
use Rattle.std.specs.List.{AllPairs}
use Rattle.hl_model.specs.declared.action.Waiting.{Waiting}
use Rattle.hl_drain.specs.declared.taken.Taken.TheInside.{Inside}

-- the actions, oldest first, for how many there is room, and how wide the gap before them is
pub record Actions : Type 0 where
  pub items : List Waiting
  pub places : ℕ
  pub gap : ℕ

-- each number is below all later ones
abbrev pub Rises : List ℕ → Type 0
Rises xs = AllPairs (λ earlier later. earlier < later) xs

-- the tickets of taken actions
abbrev pub tickets_of : List Waiting → List ℕ
tickets_of xs = map (λ waiting. waiting.ticket) xs

-- what lies behind the gap
abbrev pub actions_of : Inside → Actions
actions_of a = record { items = drop a.first a.row.items; places = a.places; gap = a.first }

-- the gap is within the row and no wider than there is room for actions, no more of these lie behind it, and
-- the row has twice that room
pub record IsKept (a : Inside) : Type 0 where
  pub gap : a.first ≤ length a.row.items
  pub narrow : a.first ≤ a.places
  pub within : length (drop a.first a.row.items) ≤ a.places
  pub few : a.places ≤ 4096
  pub room : vec_capacity a.row ≡ 2 * a.places
