-- The faults of a keeper's calls, in their order, and the list at which it stands after one.
use Rattle.std.specs.Prelude.{◌≡◌, ℕ, ◌≤◌, Ok, Err, ◌+◌, nat_le, Bool, ◌&&◌, if◌then◌else◌, Option, Some, is_none, Result, OnOk, OnErr, List, [], ◌∷◌, ◌++◌, length}
use Rattle.hl_model.specs.declared.fault.Fault.{Fault}
use Rattle.hl_model.specs.declared.slot.Slot.{Slot}
use Rattle.hl_model.specs.declared.step.Reply.{Reply}
use Rattle.hl_model.specs.declared.step.Step.{Step}
use Rattle.hl_model.specs.declared.step.Step.TheVariants.{Acquire, Refresh}
use Rattle.hl_model.specs.declared.view.View.{View}
use Rattle.hl_model.specs.Epochs.{epoch_of}
use Rattle.hl_model.specs.Offsets.{read_only, head}
use Rattle.hl_model.specs.Sizes.{Sizes}
use Rattle.hl_model.specs.Views.{slot_view, view_of}
use Rattle.hl_model.specs.Replies.{or_fault, fault_of, answer_of, unless_fault}
use Rattle.hl_words.specs.States.{RiderState}
pub use Rattle.hl_pass.specs.Calls.{unless_stranger}
use Rattle.hl_pass.specs.Calls.{is_known as is_known_by, origin_fault as of_log}
use Rattle.hl_pass.specs.Stamps.{stamp_at as stamp_by}
use Rattle.hl_keeper.specs.Passes.{PassRecord, own_of, seen, new_pass, with_share}
use Rattle.hl_keeper.specs.Keepers.{KeeperState, KeeperStands}
use Rattle.hl_keeper.specs.Journals.{journal_of, full_fault}
use Rattle.hl_keeper.specs.Stamps.{acquires_in}

-- the pass saw no offset above the present one
unfoldable pub is_behind : List Step → PassRecord → Bool
is_behind A p = nat_le (seen p).read_only (read_only A) && nat_le (seen p).head (head A)

module _ {F : Type 0} where
  -- the stamp of slot t: that of its last acquire, and 0 where it is empty
  unfoldable pub stamp_at : KeeperState F → List Step → ℕ → ℕ
  stamp_at keeper A t = stamp_by keeper.core.sizes keeper.stamps A t

  -- the pass is the one to which its slot belongs
  unfoldable pub is_known : KeeperState F → List Step → PassRecord → Bool
  is_known keeper A p = is_known_by keeper.core.sizes keeper.stamps A (own_of p)

  -- the fault of a call of a pass that isn't the slot's
  unfoldable pub stranger_fault : KeeperState F → List Step → PassRecord → Option Fault
  stranger_fault keeper A p = unless_stranger (is_known keeper A p) (stamp_at keeper A p.slot)

  -- the fault of a refresh of a pass that isn't the slot's, or saw an offset above the present one
  unfoldable pub ahead_fault : KeeperState F → List Step → PassRecord → Option Fault
  ahead_fault keeper A p = unless_stranger (is_known keeper A p && is_behind A p) (stamp_at keeper A p.slot)

  -- the fault of n steps more: they don't fit the journal, or would be more in all than a keeper counts
  abbrev pub room_fault : KeeperState F → ℕ → Option Fault
  room_fault keeper n = full_fault (journal_of keeper) n

  -- the fault of something of this origin
  unfoldable pub origin_fault : KeeperState F → ℕ → Option Fault
  origin_fault keeper origin = of_log keeper.stamp origin

  -- the fault of a step of a rider's
  unfoldable pub step_fault : KeeperState F → List Step → Step → Option Fault
  step_fault keeper A s = or_fault (room_fault keeper 1) (fault_of keeper.core.sizes A s)

  -- the fault of a step that ends something of this origin
  unfoldable pub end_fault : KeeperState F → List Step → ℕ → Step → Option Fault
  end_fault keeper A origin s = or_fault (origin_fault keeper origin) (step_fault keeper A s)

  -- the fault of a pass's touches and a step behind them
  unfoldable pub touched_fault : KeeperState F → List Step → PassRecord → Step → Option Fault
  touched_fault keeper A p s =
      or_fault (room_fault keeper (length p.touches + 1)) (fault_of keeper.core.sizes (A ++ p.touches) s)

  -- the fault of a pass's own step
  unfoldable pub call_fault : KeeperState F → List Step → PassRecord → Step → Option Fault
  call_fault keeper A p s = or_fault (stranger_fault keeper A p) (touched_fault keeper A p s)

  -- the fault of a pass's refresh
  unfoldable pub refresh_fault : KeeperState F → List Step → PassRecord → Option Fault
  refresh_fault keeper A p = or_fault (ahead_fault keeper A p) (touched_fault keeper A p (Refresh p.slot))

-- the list after a call: the touches and the step behind A, where there is no fault
abbrev pub entered : Option Fault → List Step → List Step → Step → List Step
entered fault A touches s = if is_none fault then (A ++ touches) ++ s ∷ [] else A

-- the list after a call without touches
abbrev pub made : Option Fault → List Step → Step → List Step
made fault A s = if is_none fault then A ++ s ∷ [] else A

-- the list after a pass's step: the touches and the step behind A
abbrev pub touched_list : List Step → PassRecord → Step → List Step
touched_list A p s = (A ++ p.touches) ++ s ∷ []

-- what slot t has after A: its epoch and its view
abbrev pub slot_after : Sizes → ℕ → List Step → Slot
slot_after sizes t A = record { epoch = epoch_of t A; view = view_of sizes t A }

module _ {F : Type 0} where
  -- wherever the keeper stands, the slot has the view that the pass held
  abbrev pub Knows : KeeperState F → PassRecord → Type 0
  Knows keeper p =
      (A : List Step) → KeeperStands keeper A → slot_view keeper.core.sizes p.slot A ≡ Some p.held

  -- what no call changes: the sizes, how many steps the keeper may keep, its stamp, what was cut, and what was noted
  pub record Stays (old new : KeeperState F) : Type 0 where
    pub sizes : new.core.sizes ≡ old.core.sizes
    pub limit : new.limit ≡ old.limit
    pub stamp : new.stamp ≡ old.stamp
    pub base : new.base ≡ old.base
    pub cut : new.cut ≡ old.cut
    pub called : new.called ≡ old.called

  -- what a call keeps by which no job goes in or comes out: what no call changes, and the pending actions;
  -- where it is refused, all
  abbrev pub Keeps : {X : Type 0} → KeeperState F → KeeperState F → Result X Fault → Type 0
  Keeps old new result = Stays old new
      × (new.core.drain.pending ≡ old.core.drain.pending) × OnErr result (new ≡ old)

  -- no slot was acquired
  abbrev pub SameStamps : KeeperState F → KeeperState F → Type 0
  SameStamps old new = (new.stamps ≡ old.stamps) × (new.acquired ≡ old.acquired)

  -- a keeper answered a call, and stands at this list
  pub record Replied
      {X : Type 0} (fault : Option Fault) (answer : X) (list : List Step)
      (new : KeeperState F) (result : Result X Fault)
      : Type 0 where
    pub reply : result ≡ unless_fault fault answer
    pub standing : KeeperStands new list

  -- a keeper that stood at A answered a pass's step as the definitions do after A and the touches, and stands
  -- at the list with both, where it was accepted
  abbrev pub Called : KeeperState F → List Step → PassRecord → Step → KeeperState F
      → Result Reply Fault → Type 0
  Called old A p s new result =
      Replied (touched_fault old A p s) (answer_of old.core.sizes (A ++ p.touches) (touched_list A p s) s)
      (entered (touched_fault old A p s) A p.touches s) new result

  -- at whatever list a keeper stood, it answered a rider's step with its fault there, or with this answer,
  -- and stands at the list with the step, where it was accepted
  abbrev pub Makes : {X : Type 0}
      → KeeperState F → Step → (List Step → X) → KeeperState F → Result X Fault → Type 0
  Makes old s answer new result =
      (A : List Step) → KeeperStands old A
      → Replied (step_fault old A s) (answer A) (made (step_fault old A s) A s) new result

  -- likewise where the list itself names the step
  abbrev pub MakesAt : {X : Type 0}
      → KeeperState F → (List Step → Step) → (List Step → X) → KeeperState F → Result X Fault → Type 0
  MakesAt old s answer new result =
      (A : List Step) → KeeperStands old A
      → Replied (step_fault old A (s A)) (answer A) (made (step_fault old A (s A)) A (s A)) new result

  -- the pass of a rider once slot t was acquired behind A
  abbrev pub pass_after : KeeperState F → ℕ → RiderState → List Step → PassRecord
  pass_after keeper t rider A =
      new_pass t (keeper.stamp + acquires_in (A ++ Acquire t ∷ []))
      (slot_after keeper.core.sizes t (A ++ Acquire t ∷ [])) rider

  -- the pass that a rider has once it acquired slot t, which it entered as a step of its own
  abbrev pub acquired_pass : KeeperState F → ℕ → RiderState → List Step → PassRecord
  acquired_pass keeper t rider A = pass_after keeper t (with_share 1 rider) A

  -- likewise a step that ends something of this origin
  abbrev pub Ends : {X : Type 0}
      → KeeperState F → ℕ → Step → (List Step → X) → KeeperState F → Result X Fault → Type 0
  Ends old origin s answer new result =
      (A : List Step) → KeeperStands old A
      → Replied (end_fault old A origin s) (answer A) (made (end_fault old A origin s) A s) new result

  -- likewise the touches of a pass and its own step, where these are the faults
  abbrev pub MakesTouched : {X : Type 0}
      → KeeperState F → PassRecord → Step → (List Step → Option Fault) → (List Step → X)
      → KeeperState F → Result X Fault → Type 0
  MakesTouched old p s fault answer new result =
      (A : List Step) → KeeperStands old A
      → Replied (fault A) (answer A) (entered (fault A) A p.touches s) new result

  -- at whatever list a keeper stood, the slot of the pass has this epoch after its accepted refresh
  abbrev pub Refreshes : {X : Type 0} → KeeperState F → PassRecord → ℕ → Result X Fault → Type 0
  Refreshes old p epoch result = (A : List Step) → KeeperStands old A
      → OnOk result (epoch ≡ epoch_of p.slot (touched_list A p (Refresh p.slot)))

-- the answer of a call, without what a refusal hands back
abbrev pub without_back : {X Y : Type 0} → Result X (Fault × Y) → Result X Fault
without_back (Ok x) = Ok x
without_back (Err back) = Err back.0

-- each offset of the one view is at most that of the other
abbrev pub IsUpTo : View → View → Type 0
IsUpTo v w = (v.read_only ≤ w.read_only) × (v.head ≤ w.head) × (v.tail ≤ w.tail)
