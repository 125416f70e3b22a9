-- The drain list, looked up in one flat list of steps (FASTER's trigger actions, section on epoch
-- protection).
use Rattle.std.specs.Prelude.{ℕ, ◌-◌, ◌==◌, Bool, true, false, ◌&&◌, not, Option, List, [], ◌∷◌, take, drop, length, filter, find, count_by}
use Rattle.std.specs.List.{list_any}
use Rattle.hl_model.specs.declared.action.Kind.TheVariants.{User, Settle as Settling, Close as Closing}
use Rattle.hl_model.specs.declared.action.Waiting.{Waiting}
use Rattle.hl_model.specs.declared.step.Step.{Step}
use Rattle.hl_model.specs.declared.step.Step.TheVariants.{Bump, Settle, Close, Take, Done}
use Rattle.hl_model.specs.Lists.{gather}
use Rattle.hl_model.specs.Epochs.{is_bump, current_epoch}
use Rattle.hl_model.specs.Offsets.{read_only, head}

-- a bump that stores an action
abbrev pub stores : Step → Bool
stores (Bump tag) = true
stores Settle = true
stores Close = true
stores _ = false

-- a step that takes an action
abbrev pub is_take : Step → Bool
is_take Take = true
is_take _ = false

-- a step that says that some action is done
abbrev pub is_done : Step → Bool
is_done (Done ticket) = true
is_done _ = false

-- a step that says that the action of this ticket is done
abbrev pub finishes : ℕ → Step → Bool
finishes c (Done ticket) = ticket == c
finishes c _ = false

-- how many bumps of any kind
unfoldable pub bumps : List Step → ℕ
bumps A = count_by is_bump A

-- how many takes
unfoldable pub takes : List Step → ℕ
takes A = count_by is_take A

-- how many dones
unfoldable pub dones : List Step → ℕ
dones A = count_by is_done A

-- the action that a step stores, under the number of its bump, which is the current epoch before it: the
-- ticket; a settle stores the read-only offset before it, a close the head
abbrev pub action_of : List Step → Step → List Waiting
action_of before (Bump tag) = record { ticket = current_epoch before; kind = User tag } ∷ []
action_of before Settle = record { ticket = current_epoch before; kind = Settling (read_only before) } ∷ []
action_of before Close = record { ticket = current_epoch before; kind = Closing (head before) } ∷ []
action_of before _ = []

-- all actions ever stored, oldest first
unfoldable pub actions : List Step → List Waiting
actions A = gather action_of A

-- the action of ticket c is done
unfoldable pub is_finished : ℕ → List Step → Bool
is_finished c A = list_any (finishes c) A

-- the pending actions: all but the first m, where m is the number of takes
unfoldable pub pending : List Step → List Waiting
pending A = drop (takes A) (actions A)

-- the ticket of the first of some actions; 0 where there is none
abbrev pub first_ticket : List Waiting → ℕ
first_ticket [] = 0
first_ticket (w ∷ ws) = w.ticket

-- the ticket of the oldest pending action: the next take names it; 0 where none is pending, and no take is
-- accepted
abbrev pub front : List Step → ℕ
front A = first_ticket (pending A)

-- the actions ever taken: the first m
unfoldable pub ever_taken : List Step → List Waiting
ever_taken A = take (takes A) (actions A)

-- the actions taken and not done: those ever taken whose ticket no done names
unfoldable pub taken : List Step → List Waiting
taken A = filter (λ w. not (is_finished w.ticket A)) (ever_taken A)

-- ticket c is that of an action taken and not done: one ever taken has it, and no done names it
unfoldable pub is_taken : ℕ → List Step → Bool
is_taken c A = list_any (λ w. w.ticket == c) (ever_taken A) && not (is_finished c A)

-- a list of d places is full: the actions stored less the dones are d
unfoldable pub is_full : ℕ → List Step → Bool
is_full d A = length (actions A) - dones A == d

-- the action of ticket c
unfoldable pub action_at : ℕ → List Step → Option Waiting
action_at c A = find (λ w. w.ticket == c) (actions A)
