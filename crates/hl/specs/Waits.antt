-- A session waits until an epoch is safe, and for all threads that are protected.
use Rattle.std.specs.Prelude.{◌≡◌, ℕ, ◌+◌, ◌<◌, ◌≤◌, true, Bool, Result, Ok, Err, MatchResult, List, [], ◌∷◌, ◌++◌}
use Rattle.std.specs.List.{list_any}
use Rattle.hl_model.specs.declared.fault.Fault.{Fault}
use Rattle.hl_model.specs.declared.step.Step.{Step}
use Rattle.hl_model.specs.declared.step.Step.TheVariants.{Bare}
use Rattle.hl_model.specs.Actions.{bumps}
use Rattle.hl_model.specs.Epochs.{is_bump, is_protected, safe_epoch}
use Rattle.hl_model.specs.Headline.{moves_on}
use Rattle.hl_model.specs.Replies.{IsAccepted}
use Rattle.hl_model.specs.Sizes.{Sizes}
use Rattle.hl_action.specs.Firings.{FiringRecord}
use Rattle.hl_history.specs.declared.view.Entry.{Entry}
use Rattle.hl_history.specs.Lists.{entry}
use Rattle.hl_words.specs.States.{RiderState}
use Rattle.hl_keeper.specs.Keepers.{KeeperStands}
use Rattle.hl_keeper.specs.Passes.{PassRecord, with_rider}
use Rattle.hl_domain.specs.Domains.{DomainState, no_step, LeavesUnderLock}
use Rattle.hl_domain.specs.Riders.{Bares}
use Rattle.hl_crew.specs.declared.limits.Cuts.{Cuts}
use Rattle.hl_crew.specs.Goes.{Followed}
use Rattle.hl.specs.Helps.{Helps}

-- each slot that was protected after the list A has refreshed or left among these steps
abbrev pub HaveMovedOn : List Step → List Step → Type 0
HaveMovedOn A steps = (t : ℕ) → is_protected t A ≡ true → list_any (moves_on t) steps ≡ true

-- Once the number of a bump is safe, each slot that was protected before it has refreshed or left since
abbrev pub SafeAfterAllMovedOn : Type 0
SafeAfterAllMovedOn = (sizes : Sizes) (A : List Step) (s : Step) (steps : List Step)
    → IsAccepted sizes (A ++ s ∷ steps) → is_bump s ≡ true
    → bumps A + 1 ≤ safe_epoch sizes.slots (A ++ s ∷ steps) → HaveMovedOn A steps

-- the calls of a rider: the newest met a list without adding to it; an earlier one was a bump that stored nothing;
-- and each slot that was protected at that has refreshed or left between the two
pub record ForAll (old new : RiderState) : Type 0 where
  pub list : List Step
  pub since : List Step
  pub between : List Entry
  pub calls : new.calls
      ≡ entry (list ++ Bare ∷ since) [] ∷ (between ++ entry list (Bare ∷ []) ∷ old.calls)
  pub moved : HaveMovedOn list since

module _ (F : Type 0) (log : DomainState) where
  -- a rider was told the safe epoch of the list that its call met
  abbrev pub LooksAtSafe : ℕ → RiderState → RiderState → Type 0
  LooksAtSafe safe old new =
      LeavesUnderLock F log (no_step old new) (λ before after. (after ≡ before)
      × ((A : List Step) → KeeperStands before A → safe ≡ safe_epoch before.core.sizes.slots A))

  module _ (cuts : Cuts) (gives : F → FiringRecord → ℕ → Type 0) (keeps : ℕ → FiringRecord → ℕ → Type 0) where
    -- a session found this ticket above the safe epoch, and made a round of help, which was answered so
    pub record RoundOf (ticket : ℕ) (help : Result Bool Fault) (old new : PassRecord) : Type 0 where
      pub safe : ℕ
      pub above : safe < ticket
      pub looked : RiderState
      pub looks : LooksAtSafe safe old.rider looked
      pub helps : Helps F log cuts gives keeps help (with_rider looked old) new

    -- a round that wasn't refused: another may follow
    abbrev pub RoundsNext : ℕ → ℕ → Result Bool Fault → PassRecord → PassRecord → Type 0
    RoundsNext ticket i next old new = (did : Bool) × RoundOf ticket (Ok did) old new

    -- after some rounds the session found the ticket safe, and tells the safe epoch; or a round more was refused so
    pub record Waits (ticket : ℕ) (result : Result ℕ Fault) (old new : PassRecord) : Type 0 where
      pub rounds : ℕ
      pub last : PassRecord
      pub before : Followed (RoundsNext ticket) rounds old last
      pub ended : MatchResult result
          (λ safe. (ticket ≤ safe) × LooksAtSafe safe last.rider new.rider
          × (new ≡ with_rider new.rider last))
          (λ fault. RoundOf ticket (Err fault) last new)

    -- a session ended the epoch and stored nothing, and waited for its number; or that bump was refused so
    pub record WaitsForAll (result : Result ℕ Fault) (old new : PassRecord) : Type 0 where
      pub bump : Result ℕ Fault
      pub bumped : RiderState
      pub met : Bares F log bump old.rider bumped
      pub waits : MatchResult bump (λ ticket. Waits ticket result (with_rider bumped old) new)
          (λ fault. (result ≡ Err fault) × (new ≡ with_rider bumped old))
