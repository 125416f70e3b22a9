-- What a log keeps, when it stands at a list of steps, and what stays of it.
use Rattle.std.specs.Prelude.{◌≡◌, ℕ, ◌<◌, Bool, true, false, Result, List, length}
use Rattle.hl_model.specs.declared.step.Step.{Step}
use Rattle.hl_model.specs.declared.step.Step.TheVariants.{Bump, Settle, Close, Bare, Done, Raise, Shift}
use Rattle.hl_model.specs.declared.step.Reply.{Reply}
use Rattle.hl_model.specs.declared.fault.Fault.{Fault}
use Rattle.hl_model.specs.Replies.{reply_of, extended}
use Rattle.hl_words.specs.Rows.{dealt}
use Rattle.hl_core.specs.Standing.{Stands}
use Rattle.hl_pass.specs.Stamps.{IsGiven}
use Rattle.hl_pass.specs.Stores.{stores_of}
use Rattle.hl_log.specs.States.{LogState}

-- the log's core stands at these steps, and its four words were stored as these steps tell
pub record StandsAt (log : LogState) (A : List Step) : Type 0 where
  pub standing : Stands (λ t. t.0) log.core A
  pub stored : log.master.offsets ≡ stores_of A

-- each log stands at some list; each slot has a stamp, the master is that of the log's words, and these have the shape of
-- the log's sizes
pub record IsLog (log : LogState) : Type 0 where
  pub stands : (A : List Step) × StandsAt log A
  pub room : length log.stamps.row.items ≡ log.core.sizes.slots
  pub there : log.master.table ≡ log.shared.words.table
  pub shape : log.shared.sizes ≡ log.core.sizes

-- all beside the core is as it was: the words, the stores of the four, the stamps
pub record IsBeside (old new : LogState) : Type 0 where
  pub shared : new.shared ≡ old.shared
  pub master : new.master ≡ old.master
  pub stamps : new.stamps ≡ old.stamps

-- the log after it dealt one more rider out
abbrev pub one_dealt : LogState → LogState
one_dealt log = record (log) { master = dealt log.master }

-- so it did, and had one left
pub record DealsOne (old new : LogState) : Type 0 where
  pub left : 0 < old.master.left
  pub log : new ≡ one_dealt old

-- slot t was given the next stamp, and all else beside the core is as it was
pub record IsStamped (old : LogState) (t : ℕ) (new : LogState) : Type 0 where
  pub shared : new.shared ≡ old.shared
  pub master : new.master ≡ old.master
  pub stamps : IsGiven old.stamps t new.stamps

-- a log that stood at A answered a step as the definitions do, and stands at the list with the step, where it was
-- accepted
pub record Stepped (old : LogState) (A : List Step) (step : Step) (new : LogState)
    (result : Result Reply Fault) : Type 0 where
  pub reply : result ≡ reply_of old.core.sizes A step
  pub sizes : new.core.sizes ≡ old.core.sizes
  pub standing : StandsAt new (extended old.core.sizes A step)

-- so it did at whatever list it stood
abbrev pub Makes : LogState → Step → LogState → Result Reply Fault → Type 0
Makes old step new result = (A : List Step) → StandsAt old A → Stepped old A step new result

-- a step that is no slot's and no page's, and isn't the take, which tells a job too
abbrev pub is_own : Step → Bool
is_own (Bump tag) = true
is_own Settle = true
is_own Close = true
is_own Bare = true
is_own (Done ticket) = true
is_own (Raise x) = true
is_own (Shift x) = true
is_own _ = false

abbrev pub IsOwn : Step → Type 0
IsOwn step = is_own step ≡ true

-- the log made the step, at whatever list it stood, with the same words, stamps and number of riders left
pub record Moves (old : LogState) (step : Step) (new : LogState) (result : Result Reply Fault) : Type 0 where
  pub made : Makes old step new result
  pub shared : new.shared ≡ old.shared
  pub stamps : new.stamps ≡ old.stamps
  pub left : new.master.left ≡ old.master.left
