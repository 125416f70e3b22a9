-- What contracts see of a domain, what a call met under its lock, and what is left of it at its end.
use Rattle.std.specs.Prelude.{◌≡◌, ℕ, ◌+◌, ◌*◌, Bool, Result, Ok, Err, IfOk, MatchResult, List, [], ◌∷◌, ◌++◌, length, map}
use Rattle.std.specs.List.{AllByRecursion, sum_by}
use Rattle.hl_model.specs.declared.fault.Fault.{Fault}
use Rattle.hl_model.specs.declared.step.Step.{Step}
use Rattle.hl_model.specs.declared.step.Step.TheVariants.{Acquire, Refresh}
use Rattle.hl_model.specs.declared.view.View.{View}
use Rattle.hl_model.specs.Sizes.{Sizes}
use Rattle.hl_model.specs.Views.{view_of}
use Rattle.hl_model.specs.Actions.{pending, taken}
use Rattle.hl_model.specs.Bases.{base_of}
use Rattle.hl_model.specs.Replies.{IsAccepted}
use Rattle.hl_model.specs.Snapshots.{snapshot_of}
use Rattle.hl_drain.specs.Actions.{waiting_of}
use Rattle.hl_core.specs.Holding.{least_free}
use Rattle.hl_history.specs.Lists.{entry, IsOf, IsOneList}
use Rattle.hl_words.specs.declared.view.Extent.{Extent}
use Rattle.hl_words.specs.Rule.{IsRuledAt}
use Rattle.hl_words.specs.States.{RiderState, AreTied, with_call}
use Rattle.hl_keeper.specs.Keepers.{job_tag, KeeperState, KeeperStands}
use Rattle.hl_keeper.specs.Passes.{PassRecord, seen, with_share, with_rider, with_news, is_current, last_read_only, last_head, last_ended}
use Rattle.hl_keeper.specs.Calls.{refresh_fault, touched_list, MakesTouched, Refreshes, Keeps, IsUpTo}
use Rattle.hl_keeper.specs.Endings.{EndingState}
use Rattle.hl_keeper.specs.Stores.{stores_of}

-- a domain: its sizes, its stamp, how many steps it may keep between two cuts, and how many riders it has
pub record DomainState : Type 0 where
  pub sizes : Sizes
  pub stamp : ℕ
  pub limit : ℕ
  pub riders : ℕ

-- how a domain was set up, which is what its realm names: its sizes, its stamp, and how many steps it may
-- keep between two cuts
pub record Setup : Type 0 where
  pub sizes : Sizes
  pub stamp : ℕ
  pub limit : ℕ

-- that of a domain
abbrev pub setup_of : DomainState → Setup
setup_of domain = record { sizes = domain.sizes; stamp = domain.stamp; limit = domain.limit }

-- a keeper that was set up so, and stands at the list
pub record IsAt {F : Type 0} (setup : Setup) (list : List Step) (keeper : KeeperState F) : Type 0 where
  pub stands : KeeperStands keeper list
  pub sizes_are : keeper.core.sizes ≡ setup.sizes
  pub stamp_is : keeper.stamp ≡ setup.stamp
  pub limit_is : keeper.limit ≡ setup.limit

-- what a call without a rider met under the lock: a keeper that was set up as the domain was, which stood at
-- a list, and of both of which this holds
pub record UnderLock (F : Type 0) (domain : DomainState)
    (Holds : KeeperState F → List Step → Type 0) : Type 0 where
  pub keeper : KeeperState F
  pub list : List Step
  pub met : IsAt (setup_of domain) list keeper
  pub holds : Holds keeper list

-- what lies under the lock: a keeper, and the list of all steps that were entered
pub record HeldState (F : Type 0) : Type 0 where
  pub keeper : KeeperState F
  pub list : List Step

-- how far the list is, where so many of its steps are cut
abbrev pub extent_at : ℕ → List Step → Extent
extent_at cut list = record { steps = length list; cut = cut }

-- the keeper was set up so, stands at the list, and noted the calls of all its steps and all its cuts
pub record IsHeld {F : Type 0} (setup : Setup) (held : HeldState F) : Type 0 where
  pub at : IsAt setup held.list held.keeper
  pub noted : held.keeper.called ≡ extent_at held.keeper.cut held.list

-- a call of a rider: what it puts behind the list that it meets, and the rider before and after it
pub record Call : Type 0 where
  pub steps : List Step → List Step
  pub old : RiderState
  pub new : RiderState

-- a call that makes one step
abbrev pub call_of : Step → RiderState → RiderState → Call
call_of s old new = record { steps = λ _. s ∷ []; old = old; new = new }

-- a call of a pass, which enters its touches and makes one step
abbrev pub pass_call : PassRecord → Step → RiderState → Call
pass_call p s new = record { steps = λ _. p.touches ++ s ∷ []; old = p.rider; new = new }

-- a call that makes none
abbrev pub no_step : RiderState → RiderState → Call
no_step old new = record { steps = λ _. []; old = old; new = new }

-- a refused call makes none
abbrev pub steps_if : {X : Type 0} → Result X Fault → List Step → List Step
steps_if (Ok x) steps = steps
steps_if (Err fault) steps = []

-- the call as it was answered
abbrev pub answered : {X : Type 0} → Result X Fault → Call → Call
answered result call =
    record { steps = λ list. steps_if result (call.steps list); old = call.old; new = call.new }

-- a rider after a call that met this list, of which so many steps were cut, and put these steps behind it, with so many
-- cut then
abbrev pub with_entry : ℕ → ℕ → List Step → List Step → RiderState → RiderState
with_entry was now list steps r = with_call was now (entry list steps) (with_share (length steps) r)

-- what a call met under the lock, and what it left there: a keeper that stood at the list of all steps, and
-- one that stands at this list and the call's steps behind it. The rider's newest call is of exactly that
-- list and those steps, with as many cut as the one keeper has cut and the other; and the list begins with what each
-- earlier one left. This holds of both keepers
pub record LeavesUnderLock
    (F : Type 0) (domain : DomainState) (call : Call) (Holds : KeeperState F → KeeperState F → Type 0)
    : Type 0 where
  pub list : List Step
  pub before : KeeperState F
  pub after : KeeperState F
  pub met : IsAt (setup_of domain) list before
  pub left : IsAt (setup_of domain) (list ++ call.steps list) after
  pub entered : call.new ≡ with_entry before.cut after.cut list (call.steps list) call.old
  pub rises : IsOf list call.old.calls
  pub holds : Holds before after

-- likewise of a call that keeps what such a call of a keeper does
abbrev pub MakesUnderLock : {X : Type 0} (F : Type 0) → DomainState → Call → Result X Fault
    → (KeeperState F → KeeperState F → Result X Fault → Type 0) → Type 0
MakesUnderLock F domain call result Holds =
    LeavesUnderLock F domain (answered result call) (λ old new. Holds old new result × Keeps old new result)

-- the pass whose slot has this epoch, that saw this at its last locked call, and did nothing since
abbrev pub with_held : ℕ → View → PassRecord → PassRecord
with_held epoch view p = record {
  slot = p.slot;
  stamp = p.stamp;
  epoch = epoch;
  held = view;
  touches = [];
  rider = p.rider;
}

-- a refresh of this pass was answered so, and left the pass so
pub record Refreshed (F : Type 0) (domain : DomainState) (p new : PassRecord) (result : Result View Fault)
    : Type 0 where
  pub met : MakesUnderLock F domain (pass_call p (Refresh p.slot) new.rider) result (λ before after answer.
      MakesTouched before p (Refresh p.slot) (λ A. refresh_fault before A p)
      (λ A. view_of before.core.sizes p.slot (touched_list A p (Refresh p.slot))) after answer
      × Refreshes before p new.epoch answer)
  pub pass : let old = with_rider new.rider p
      in MatchResult result (λ view. new ≡ with_held new.epoch view old) (λ _. new ≡ old)
  pub fresh : IfOk result (IsUpTo (seen p))

-- what a pass has once it loaded the words that it has newest now
abbrev pub after_news : PassRecord → PassRecord → PassRecord
after_news old new = with_news (last_read_only new) (last_head new) (last_ended new) old

-- none of these words is new to the pass, and it has room for a touch
abbrev pub stays_current : PassRecord → PassRecord → Bool
stays_current old new = is_current (last_read_only new) (last_head new) (last_ended new) old

-- a call that acquires the least slot that isn't protected
abbrev pub enter_call : Sizes → RiderState → RiderState → Call
enter_call sizes old new = record { steps = λ A. Acquire (least_free sizes A) ∷ []; old = old; new = new }

-- the rider whom an acquire leaves: that of the pass, or the one handed back
abbrev pub acquirer : Result PassRecord (Fault × RiderState) → RiderState
acquirer (Ok pass) = pass.rider
acquirer (Err back) = back.1

-- the rider whom a release leaves: the one handed out, or that of the pass handed back
abbrev pub releaser : Result RiderState (Fault × PassRecord) → RiderState
releaser (Ok rider) = rider
releaser (Err back) = back.1.rider

-- the steps that were cut and then the journal are an accepted list, which is the one list of all that these
-- riders' calls met and made; the base is that of the steps cut; the snapshot is that of both, and so are the
-- actions left; the riders entered as many steps as both have; the rule of the words holds of what they
-- hold, of the raises, shifts and bumps of both, and of exactly what these riders stored and loaded; among that stand
-- the calls of the list, the newest of which left it so long and with so many steps cut
pub record IsEnding {F : Type 0} (sizes : Sizes) (riders : List RiderState) (ending : EndingState F)
    : Type 0 where
  pub steps_cut : List Step
  pub accepted : IsAccepted sizes (steps_cut ++ ending.journal)
  pub one_list : IsOneList (steps_cut ++ ending.journal) (map (λ r. r.calls) riders)
  pub base_is : ending.base ≡ base_of sizes steps_cut
  pub cut_is : ending.cut ≡ length steps_cut
  pub snapshot_is : ending.snapshot ≡ snapshot_of sizes (steps_cut ++ ending.journal)
  pub pending_are : map (waiting_of job_tag) ending.left.pending ≡ pending (steps_cut ++ ending.journal)
  pub taken_are : ending.left.taken ≡ taken (steps_cut ++ ending.journal)
  pub ruled : IsRuledAt ending.words.cells ending.words.words (stores_of (steps_cut ++ ending.journal))
      (extent_at ending.cut (steps_cut ++ ending.journal)) (map (λ r. r.view) riders)
  pub tied : AllByRecursion (λ r. AreTied r.view.touches r.calls) riders
  pub cells_are : ending.words.cells ≡ sizes.frames * sizes.page_size
  pub sum : ending.cut + length ending.journal ≡ sum_by (λ r. r.share) riders
