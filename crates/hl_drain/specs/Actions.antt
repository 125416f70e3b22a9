-- What an action is known by while it waits.
use Rattle.std.specs.Prelude.{ℕ}
use Rattle.hl_model.specs.declared.action.Kind.{Kind}
use Rattle.hl_model.specs.declared.action.Kind.TheVariants.{User as UserKind, Settle as SettleKind, Close as CloseKind}
use Rattle.hl_model.specs.declared.action.Waiting.{Waiting}
use Rattle.hl_drain.specs.declared.action.Action.{Action}
use Rattle.hl_drain.specs.declared.action.Action.TheVariants.{Settle, Close, User}

module _ {J : Type 0} where
  -- the kind of an action: a job is known by its tag
  abbrev pub kind_of : (J → ℕ) → Action J → Kind
  kind_of tag (Settle address) = SettleKind address
  kind_of tag (Close address) = CloseKind address
  kind_of tag (User job) = UserKind (tag job)

  -- a stored action, with its ticket, as the lists of queries name it
  abbrev pub waiting_of : (J → ℕ) → ℕ × Action J → Waiting
  waiting_of tag entry = record { ticket = entry.0; kind = kind_of tag entry.1 }
