-- The taken actions that aren't done, each with its firing and its job.
use Rattle.std.specs.Prelude.{◌≡◌, ℕ, ◌==◌, Bool, not, Option, Some, None, option_map, List, [], ◌∷◌, map, filter, find}
use Rattle.hl_model.specs.declared.action.Kind.{Kind}
use Rattle.hl_model.specs.declared.action.Kind.TheVariants.{User}
use Rattle.hl_model.specs.declared.step.Step.{Step}
use Rattle.hl_model.specs.declared.step.Step.TheVariants.{Take}
use Rattle.hl_model.specs.Lists.{gather}
use Rattle.hl_model.specs.Sizes.{Sizes}
use Rattle.hl_model.specs.Epochs.{safe_epoch}
use Rattle.hl_model.specs.Actions.{front, taken, is_finished}
use Rattle.hl_action.specs.Firings.{FiringRecord}
use Rattle.hl_action.specs.Jobs.{ReadyRecord}

-- the actions in the order of their takes, and how many places the row has
pub record Row (F : Type 0) : Type 0 where
  pub room : ℕ
  pub actions : List (ReadyRecord F)

-- a firing of this ticket
abbrev pub is_of : ℕ → FiringRecord → Bool
is_of ticket firing = firing.ticket == ticket

module _ {F : Type 0} where
  -- an action has this ticket
  abbrev pub fires : ℕ → ReadyRecord F → Bool
  fires ticket ready = is_of ticket ready.firing

  -- the tickets of actions
  abbrev pub tickets_held : List (ReadyRecord F) → List ℕ
  tickets_held actions = map (λ ready. ready.firing.ticket) actions

  -- the tag of an action's job, if it has one
  abbrev pub tag_held : ReadyRecord F → Option ℕ
  tag_held ready = option_map (λ kept. kept.tag) ready.kept

-- the tag of a job's action
abbrev pub tag_of : Kind → Option ℕ
tag_of (User tag) = Some tag
tag_of _ = None

-- the firing of the action that a step takes: its ticket, and the safe epoch before the step
abbrev pub firing_of : Sizes → List Step → Step → List FiringRecord
firing_of sizes before Take = record { ticket = front before; safe = safe_epoch sizes.slots before } ∷ []
firing_of sizes before _ = []

-- the firings of all actions ever taken, in the order of their takes
unfoldable pub firings : Sizes → List Step → List FiringRecord
firings sizes A = gather (firing_of sizes) A

-- those of the actions that aren't done
unfoldable pub undone_firings : Sizes → List Step → List FiringRecord
undone_firings sizes A = filter (λ firing. not (is_finished firing.ticket A)) (firings sizes A)

-- the firing of the action of this ticket, if it was taken
unfoldable pub firing_at : Sizes → ℕ → List Step → Option FiringRecord
firing_at sizes ticket A = find (is_of ticket) (firings sizes A)

-- a row holds the actions that are taken and not done after the list A: their firings, and their jobs by
-- their tags; it has exactly a place for each action of the drain list
pub record Holds {F : Type 0} (sizes : Sizes) (A : List Step) (held : Row F) : Type 0 where
  pub firings_is : map (λ ready. ready.firing) held.actions ≡ undone_firings sizes A
  pub jobs_is : map tag_held held.actions ≡ map (λ w. tag_of w.kind) (taken A)
  pub room : held.room ≡ sizes.drain
