-- What a log stores of the offsets and the epochs, looked up in one flat list of steps.
use Rattle.std.specs.Prelude.{ℕ, zero, suc, ◌≡◌, ◌≤◌, nat_lt, List, [], ◌∷◌, ◌++◌, length, take, map, reverse}
use Rattle.std.specs.List.{filter}
use Rattle.hl_model.specs.declared.action.Kind.{Kind}
use Rattle.hl_model.specs.declared.action.Kind.TheVariants.{Settle}
use Rattle.hl_model.specs.declared.step.Reply.{Reply}
use Rattle.hl_model.specs.declared.step.Reply.TheVariants.{Raised, Shifted, Ticket, Bumped, Settled}
use Rattle.hl_model.specs.declared.step.Step.{Step}
use Rattle.hl_model.specs.declared.step.Step.TheVariants.{Done, Write}
use Rattle.hl_model.specs.Lists.{gather}
use Rattle.hl_model.specs.Actions.{action_at, bumps}
use Rattle.hl_model.specs.Offsets.{raised_to, shifted_to}
use Rattle.hl_model.specs.Replies.{kind_or_job_0}
use Rattle.hl_model.specs.Settled.{safe_read_only}
use Rattle.hl_words.specs.declared.view.OffsetWords.{OffsetWords}
use Rattle.hl_words.specs.declared.which.Which.TheVariants.{ReadOnly, Head, Ended, SafeReadOnly}
use Rattle.hl_words.specs.Views.{newest, with_offset}

-- the addresses to which the steps move an offset, the newest first; a step that doesn't move it has 0
unfoldable pub moves_in : (Step → ℕ) → List Step → List ℕ
moves_in to A = reverse (filter (nat_lt 0) (map to A))

-- n, n - 1 and so on to 1
unfoldable pub down_from : ℕ → List ℕ
down_from zero = []
down_from (suc n) = suc n ∷ down_from n

-- x, where the action is a settle
abbrev pub if_settle : ℕ → Kind → List ℕ
if_settle x (Settle r) = x ∷ []
if_settle x _ = []

-- the safe read-only offset after the step, where that is the done of a settle
abbrev pub settled_by : List Step → Step → List ℕ
settled_by before (Done ticket) =
    if_settle (safe_read_only (before ++ Done ticket ∷ [])) (kind_or_job_0 (action_at ticket before))
settled_by before _ = []

-- the safe read-only offset after each done of a settle, the newest first
unfoldable pub settled_in : List Step → List ℕ
settled_in A = reverse (gather settled_by A)

-- the stores of the master's words at A, the newest first: the addresses of its raises, those of its shifts,
-- each epoch that a bump ended, and the safe read-only offset after each done of a settle
unfoldable pub stores_of : List Step → OffsetWords
stores_of A = record {
  read_only = moves_in raised_to A;
  head = moves_in shifted_to A;
  ended = down_from (bumps A);
  safe_read_only = settled_in A;
}

-- the stores after a step that was answered so: a raise, a shift, a bump and the done of a settle store what they tell
abbrev pub with_told : Reply → OffsetWords → OffsetWords
with_told (Raised x) o = with_offset ReadOnly x o
with_told (Shifted x) o = with_offset Head x o
with_told (Ticket x) o = with_offset Ended x o
with_told (Bumped x) o = with_offset Ended x o
with_told (Settled x) o = with_offset SafeReadOnly x o
with_told _ o = o

-- no word's newest store is below that of the other stores
pub record IsAbove (old new : OffsetWords) : Type 0 where
  pub read_only : newest old.read_only ≤ newest new.read_only
  pub head : newest old.head ≤ newest new.head
  pub ended : newest old.ended ≤ newest new.ended
  pub safe_read_only : newest old.safe_read_only ≤ newest new.safe_read_only

-- x is settled in a list: it was the safe read-only offset once the list had so many steps, and behind these no step
-- writes below it
pub record IsSettled (A : List Step) (x : ℕ) : Type 0 where
  pub steps : ℕ
  pub safe : x ≡ safe_read_only (take steps A)
  pub unwritten : (X : List Step) (t a v : ℕ) (Y : List Step) → A ≡ X ++ Write t a v ∷ Y
      → steps ≤ length X → x ≤ a
