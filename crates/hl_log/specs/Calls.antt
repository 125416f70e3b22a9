-- What a call of a pass, under the lock, makes of a log and of the pass.
use Rattle.std.specs.Prelude.{◌≡◌, ℕ, Bool, true, if◌then◌else◌, None, Result, Err, List}
use Rattle.hl_model.specs.declared.fault.Fault.{Fault}
use Rattle.hl_model.specs.declared.fault.Fault.TheVariants.{Stranger}
use Rattle.hl_model.specs.declared.step.Reply.{Reply}
use Rattle.hl_model.specs.declared.step.Step.{Step}
use Rattle.hl_model.specs.declared.step.Step.TheVariants.{Refresh, Release, Allocate, Look}
use Rattle.hl_model.specs.Views.{slot_view}
use Rattle.hl_model.specs.Replies.{reply_of, fault_of, extended}
use Rattle.hl_pass.specs.Calls.{is_call, looked, is_known as is_known_by, KnownAt as KnownBy}
use Rattle.hl_pass.specs.Passes.{rested_in}
use Rattle.hl_pass.specs.Stamps.{stamp_at as stamp_by}
use Rattle.hl_log.specs.Logs.{StandsAt, IsBeside}
use Rattle.hl_log.specs.States.{LogState, PassState}
use Rattle.hl_log.specs.Passes.{with_own, epoch_told, IsRisen}

-- the stamp of slot t: that of its last acquire, and 0 where it is empty
abbrev pub stamp_at : LogState → List Step → ℕ → ℕ
stamp_at log A t = stamp_by log.core.sizes log.stamps.row.items A t

-- the pass is the one to which its slot belongs
abbrev pub is_known : LogState → List Step → PassState → Bool
is_known log A p = is_known_by log.core.sizes log.stamps.row.items A p.own

-- the pass is so, if its slot is protected
abbrev pub KnownAt : LogState → List Step → PassState → Type 0
KnownAt log A p = KnownBy log.core.sizes log.stamps.row.items A p.own

-- the step for slot t, of those that a slot makes
abbrev pub by_slot : ℕ → Step → Step
by_slot t (Refresh u) = Refresh t
by_slot t (Release u) = Release t
by_slot t (Allocate u n) = Allocate t n
by_slot t step = step

-- the reply to a step of a pass: that the pass is a stranger, with the slot's stamp, or the definitions' reply
-- behind the list and what the pass saw
abbrev pub call_reply : LogState → List Step → PassState → Step → Result Reply Fault
call_reply log A p step =
    if is_known log A p then reply_of log.core.sizes (looked log.core.sizes A p.own) step
    else Err (Stranger (stamp_at log A p.own.slot))

-- the list after it
abbrev pub call_list : LogState → List Step → PassState → Step → List Step
call_list log A p step =
    if is_known log A p then extended log.core.sizes (looked log.core.sizes A p.own) step else A

-- the pass after it: a stranger is as it was, any other has what its slot has
abbrev pub call_pass : LogState → List Step → PassState → Step → PassState
call_pass log A p step =
    if is_known log A p
    then with_own (rested_in (slot_view log.core.sizes p.own.slot (call_list log A p step))
    (epoch_told (call_reply log A p step) p.own.epoch) p.own) p
    else p

-- a log that stood at A answered a pass's step so, and stands at that list
pub record Called (old : LogState) (A : List Step) (p : PassState) (step : Step) (new : LogState)
    (q : PassState) (result : Result Reply Fault) : Type 0 where
  pub reply : result ≡ call_reply old A p step
  pub sizes : new.core.sizes ≡ old.core.sizes
  pub standing : StandsAt new (call_list old A p step)
  pub pass : q ≡ call_pass old A p step

-- so at whatever list it stood; all beside its core is as it was. A pass that was no stranger is none then, if its
-- slot is still protected, and what it saw was accepted, as a look, if that was nothing below what its slot saw. A pass
-- that saw nothing below that does so still
pub record Calls (old : LogState) (p : PassState) (step : Step) (new : LogState) (q : PassState)
    (result : Result Reply Fault) : Type 0 where
  pub called : (A : List Step) → StandsAt old A → Called old A p step new q result
  pub beside : IsBeside old new
  pub known : (A : List Step) → StandsAt old A → is_known old A p ≡ true
      → KnownAt new (call_list old A p step) q
  pub entered : (A : List Step) → StandsAt old A → is_known old A p ≡ true → IsRisen p
      → fault_of old.core.sizes A (Look p.own.slot p.own.view.read_only p.own.view.head) ≡ None
  pub risen : IsRisen p → IsRisen q

-- a step that a pass makes of its slot, under the lock
abbrev pub IsCall : Step → Type 0
IsCall step = is_call step ≡ true
