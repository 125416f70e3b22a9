-- What a call of a pass, under the lock, makes of both handles.
use Rattle.std.specs.Prelude.{◌≡◌, ℕ, ◌<◌, ◌==◌, true, if◌then◌else◌, Option, Some, None, List, [], unwrap_or}
use Rattle.hl_model.specs.declared.fault.Fault.{Fault}
use Rattle.hl_model.specs.declared.step.Step.{Step}
use Rattle.hl_model.specs.declared.step.Step.TheVariants.{Acquire, Look}
use Rattle.hl_model.specs.declared.view.View.{View}
use Rattle.hl_model.specs.Replies.{reply_of, fault_of, extended}
use Rattle.hl_model.specs.Views.{slot_view}
use Rattle.hl_answers.specs.declared.outcome.Brief.{Brief}
use Rattle.hl_answers.specs.declared.outcome.Outcome.{Outcome}
use Rattle.hl_answers.specs.Outcomes.{outcome_of, fault_outcome, brief_of, no_core}
use Rattle.hl_log.specs.Calls.{by_slot, is_known, call_reply, call_list, call_pass, KnownAt}
use Rattle.hl_pass.specs.Stamps.{next_stamp}
use Rattle.hl_log.specs.Logs.{StandsAt, IsBeside, IsStamped, one_dealt}
use Rattle.hl_log.specs.Passes.{epoch_told}
use Rattle.hl_c_log.specs.Logs.{Refuses}
use Rattle.hl_c_log.specs.Rows.{LogRow, PassRow}

-- a log that stood at A told this of a pass's step: that the pass is a stranger, or the definitions' reply behind
-- the list and what the pass saw; it stands at the list with both, or at A, and the pass has what its slot has: one
-- that was no stranger is none then, if its slot is still protected, and what it saw was accepted
pub record Called (old : LogRow.Denot) (A : List Step) (p : PassRow.Denot) (step : Step) (new : LogRow.Denot)
    (q : PassRow.Denot) (outcome : Outcome)
    : Type 0 where
  pub told : outcome ≡ outcome_of (call_reply old A p step)
  pub sizes : new.core.sizes ≡ old.core.sizes
  pub standing : StandsAt new (call_list old A p step)
  pub pass : q ≡ call_pass old A p step
  pub known : is_known old A p ≡ true → KnownAt new (call_list old A p step) q
  pub entered : is_known old A p ≡ true
      → fault_of old.core.sizes A (Look p.own.slot p.own.view.read_only p.own.view.head) ≡ None

-- the handle keeps its pass
abbrev pub stays : Outcome → PassRow.Denot → Option PassRow.Denot
stays outcome q = Some q

-- the handle keeps its pass where the call was refused
abbrev pub leaves : Outcome → PassRow.Denot → Option PassRow.Denot
leaves outcome q = if outcome.number == 0 then None else Some q

-- a pass's step, whose slot is the pass's, was so made at whatever list the log stood, and both handles keep what
-- they had, or the pass's as is told; where one has none, nothing is changed, and the outcome says so
abbrev pub CallsBy : (Outcome → PassRow.Denot → Option PassRow.Denot) → Step → Option LogRow.Denot
    → Option PassRow.Denot
    → Option LogRow.Denot
    → Option PassRow.Denot
    → Outcome
    → Type 0
CallsBy kept step None pass new left outcome = (outcome ≡ no_core) × (new ≡ None) × (left ≡ pass)
CallsBy kept step (Some log) None new left outcome = (outcome ≡ no_core) × (new ≡ Some log) × (left ≡ None)
CallsBy kept step (Some log) (Some p) new left outcome =
    (after : LogRow.Denot) × (q : PassRow.Denot) × (new ≡ Some after) × (left ≡ kept outcome q)
    × IsBeside log after
    × ((A : List Step) → StandsAt log A → Called log A p (by_slot p.own.slot step) after q outcome)

-- so for a step of which one number is told
abbrev pub CallsBriefly : (Outcome → PassRow.Denot → Option PassRow.Denot) → Step → Option LogRow.Denot
    → Option PassRow.Denot
    → Option LogRow.Denot
    → Option PassRow.Denot
    → Brief
    → Type 0
CallsBriefly kept step log pass new left brief = (outcome : Outcome)
    × CallsBy kept step log pass new left outcome
    × (brief ≡ brief_of outcome)

-- nothing is seen
abbrev pub no_view : View
no_view = record { read_only = 0; head = 0; tail = 0 }

-- a log that stood at A protected a slot, and this pass acts for it: it has the slot's view and epoch, and the next
-- stamp; it is no stranger, has one of the riders that were left, and did nothing to words yet
pub record Acquired (old : LogRow.Denot) (A : List Step) (slot : ℕ) (new : LogRow.Denot) (q : PassRow.Denot)
    (outcome : Outcome)
    : Type 0 where
  pub told : outcome ≡ outcome_of (reply_of old.core.sizes A (Acquire slot))
  pub accepted : fault_of old.core.sizes A (Acquire slot) ≡ None
  pub sizes : new.core.sizes ≡ old.core.sizes
  pub standing : StandsAt new (extended old.core.sizes A (Acquire slot))
  pub left : 0 < old.master.left
  pub stamps : IsStamped (one_dealt old) slot new
  pub slot_is : q.own.slot ≡ slot
  pub stamp_is : q.own.stamp ≡ next_stamp old.stamps
  pub epoch_is : q.own.epoch ≡ epoch_told (reply_of old.core.sizes A (Acquire slot)) 0
  pub held_is : q.own.held
      ≡ unwrap_or (slot_view old.core.sizes slot (extended old.core.sizes A (Acquire slot))) no_view
  pub view_is : q.own.view ≡ q.own.held
  pub shared : q.shared ≡ old.shared
  pub did_nothing : q.rider.view.touches ≡ []
  pub known : KnownAt new (extended old.core.sizes A (Acquire slot)) q

-- a log protected a slot, and its pass is there; or refused it, and the outcome has the fault
abbrev pub AcquiresOf : ℕ → LogRow.Denot → LogRow.Denot → Option PassRow.Denot → Outcome → Type 0
AcquiresOf slot old new None outcome =
    (fault : Fault) × Refuses old (Acquire slot) fault new × (outcome ≡ fault_outcome fault)
AcquiresOf slot old new (Some q) outcome =
    (A : List Step) → StandsAt old A → Acquired old A slot new q outcome

-- an acquire: where a pass is there, or no log is open, nothing is changed, and the outcome says so
abbrev pub Acquires : ℕ → Option LogRow.Denot → Option PassRow.Denot → Option LogRow.Denot
    → Option PassRow.Denot
    → Outcome
    → Type 0
Acquires slot log (Some p) new left outcome = (outcome ≡ no_core) × (new ≡ log) × (left ≡ Some p)
Acquires slot None None new left outcome = (outcome ≡ no_core) × (new ≡ None) × (left ≡ None)
Acquires slot (Some old) None new left outcome =
    (log : LogRow.Denot) × (new ≡ Some log) × AcquiresOf slot old log left outcome
