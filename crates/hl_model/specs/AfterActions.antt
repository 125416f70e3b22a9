-- The drain list of a base and the steps since, and the offsets that done actions settle.
use Rattle.std.specs.Prelude.{ℕ, max, not, if◌then◌else◌, List, [], ◌∷◌, ◌++◌, take, drop, filter}
use Rattle.hl_model.specs.declared.action.Kind.{Kind}
use Rattle.hl_model.specs.declared.action.Kind.TheVariants.{User, Settle as Settling, Close as Closing}
use Rattle.hl_model.specs.declared.action.Waiting.{Waiting}
use Rattle.hl_model.specs.declared.step.Step.{Step}
use Rattle.hl_model.specs.declared.step.Step.TheVariants.{Bump, Settle, Close}
use Rattle.hl_model.specs.Lists.{gather, greatest}
use Rattle.hl_model.specs.Actions.{takes, is_finished}
use Rattle.hl_model.specs.Settled.{settles, closes}
use Rattle.hl_model.specs.Bases.{Base}
use Rattle.hl_model.specs.AfterEpochs.{epoch_after}
use Rattle.hl_model.specs.AfterOffsets.{read_only_after, head_after}

-- the action that a step stores: the ticket is the current epoch before it, a settle stores the read-only
-- offset before it, a close the head
abbrev pub stored_by : Base → List Step → Step → List Waiting
stored_by b before (Bump tag) = record { ticket = epoch_after b before; kind = User tag } ∷ []
stored_by b before Settle =
    record { ticket = epoch_after b before; kind = Settling (read_only_after b before) } ∷ []
stored_by b before Close = record { ticket = epoch_after b before; kind = Closing (head_after b before) } ∷ []
stored_by b before _ = []

-- the actions pending in the base, and behind them those stored since
unfoldable pub stored_after : Base → List Step → List Waiting
stored_after b L = b.waiting ++ gather (stored_by b) L

-- the pending actions: all of these but the first m, where m is the number of takes since
unfoldable pub waiting_after : Base → List Step → List Waiting
waiting_after b L = drop (takes L) (stored_after b L)

-- the actions taken in the base, and behind them the first m
unfoldable pub ever_taken_after : Base → List Step → List Waiting
ever_taken_after b L = b.taken ++ take (takes L) (stored_after b L)

-- the actions taken and not done: those of them whose ticket no done since names
unfoldable pub taken_after : Base → List Step → List Waiting
taken_after b L = filter (λ w. not (is_finished w.ticket L)) (ever_taken_after b L)

-- the greatest address that the actions done since had stored, or 0
unfoldable pub done_greatest_after : (Kind → ℕ) → Base → List Step → ℕ
done_greatest_after stored b L =
    greatest (λ w. if is_finished w.ticket L then stored w.kind else 0) (ever_taken_after b L)

-- the safe read-only offset: the base's, or what a settle done since had stored, whichever is greater
unfoldable pub safe_read_only_after : Base → List Step → ℕ
safe_read_only_after b L = max b.six.safe_read_only (done_greatest_after settles b L)

-- the closed offset, likewise
unfoldable pub closed_after : Base → List Step → ℕ
closed_after b L = max b.six.closed (done_greatest_after closes b L)
