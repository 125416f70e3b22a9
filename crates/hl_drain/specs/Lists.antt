-- A drain list as callers see it: two lists in order, a limit, and the turns of its last take.
use Rattle.std.specs.Prelude.{ℕ, ◌+◌, ◌<◌, ◌≤◌, ◌==◌, nat_le, not, Bool, if◌then◌else◌, Option, Some, None, Result, Ok, Err, List, [], ◌∷◌, ◌++◌, length, drop, map, filter, find}
use Rattle.std.specs.List.{AllPairs}
use Rattle.hl_model.specs.declared.action.Kind.{Kind}
use Rattle.hl_model.specs.declared.action.Waiting.{Waiting}
use Rattle.hl_model.specs.declared.fault.Fault.{Fault}
use Rattle.hl_model.specs.declared.fault.Fault.TheVariants.{DrainFull, Empty, NotReady, NotTaken}
use Rattle.hl_drain.specs.declared.action.Action.{Action}
use Rattle.hl_drain.specs.Actions.{waiting_of}

-- the pending actions with their tickets, and the taken ones by ticket and kind, each oldest first; how many
-- pending places the last accepted take visited
pub record Lists (J : Type 0) : Type 0 where
  pub limit : ℕ
  pub pending : List (ℕ × Action J)
  pub taken : List Waiting
  pub turns : ℕ

-- whether a taken action has this ticket
abbrev pub has_ticket : ℕ → Waiting → Bool
has_ticket ticket waiting = waiting.ticket == ticket

-- what a done answers, given the taken action of its ticket
abbrev pub kind_or_fault : Option Waiting → Result Kind Fault
kind_or_fault None = Err NotTaken
kind_or_fault (Some waiting) = Ok waiting.kind

module _ {J : Type 0} where
  -- how many actions are pending and taken
  abbrev pub count_of : Lists J → ℕ
  count_of lists = length lists.pending + length lists.taken

  -- no further action may be stored
  abbrev pub is_full : Lists J → Bool
  is_full lists = count_of lists == lists.limit

  -- the tickets, oldest first: an action is taken before those that are pending
  abbrev pub tickets : Lists J → List ℕ
  tickets lists = map (λ waiting. waiting.ticket) lists.taken ++ map (λ entry. entry.0) lists.pending

  -- what is true of each drain list
  pub record IsDrain (lists : Lists J) : Type 0 where
    pub limit_least : 1 ≤ lists.limit
    pub limit_most : lists.limit ≤ 4096
    pub within_limit : count_of lists ≤ lists.limit
    pub rising : AllPairs (λ earlier later. earlier < later) (tickets lists)

  -- what a put answers: a full list hands the action back
  abbrev pub put_answer : Lists J → Action J → Result Unit (Fault × Action J)
  put_answer lists action = if is_full lists then Err (DrainFull, action) else Ok tt

  -- the lists after a put: a list that isn't full has the action as its last pending one
  abbrev pub after_put : Lists J → ℕ → Action J → Lists J
  after_put lists ticket action =
      if is_full lists then lists else (record lists { pending = lists.pending ++ (ticket, action) ∷ [] })

  -- what a take answers, given what is pending
  abbrev pub taken_from : List (ℕ × Action J) → ℕ → Result (ℕ × Action J) Fault
  taken_from [] safe = Err Empty
  taken_from (oldest ∷ later) safe = if nat_le oldest.0 safe then Ok oldest else Err (NotReady oldest.0 safe)

  -- what a take answers: the oldest pending action where its ticket is at most the safe epoch
  abbrev pub take_answer : Lists J → ℕ → Result (ℕ × Action J) Fault
  take_answer lists safe = taken_from lists.pending safe

  -- the lists after a take with this answer: the oldest pending action is the last taken one, and its place
  -- alone was visited
  abbrev pub after_take : (J → ℕ) → Result (ℕ × Action J) Fault → Lists J → Lists J
  after_take tag (Err fault) lists = lists
  after_take tag (Ok entry) lists =
      record lists {
        pending = drop 1 lists.pending;
        taken = lists.taken ++ waiting_of tag entry ∷ [];
        turns = 1;
      }

  -- the lists after the oldest pending action, if there is one, was given up
  abbrev pub after_give_up : Lists J → Lists J
  after_give_up lists = record lists { pending = drop 1 lists.pending }

  -- what a done answers: the kind of the taken action of this ticket
  abbrev pub done_answer : Lists J → ℕ → Result Kind Fault
  done_answer lists ticket = kind_or_fault (find (has_ticket ticket) lists.taken)

  -- the lists after a done: the taken actions of other tickets stay
  abbrev pub after_done : Lists J → ℕ → Lists J
  after_done lists ticket =
      record lists { taken = filter (λ waiting. not (has_ticket ticket waiting)) lists.taken }
