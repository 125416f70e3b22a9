-- What ends something is tried again while the journal is full and is cut.
use Rattle.std.specs.Prelude.{◌≡◌, ℕ, ◌≤◌, Bool, true, Result, Err, List, [], ◌∷◌, ◌++◌}
use Rattle.hl_model.specs.declared.fault.Fault.{Fault}
use Rattle.hl_model.specs.declared.fault.Fault.TheVariants.{JournalFull}
use Rattle.hl_model.specs.declared.step.Reply.{Reply}
use Rattle.hl_model.specs.declared.step.Step.{Step}
use Rattle.hl_model.specs.declared.step.Step.TheVariants.{Done, FlushDone, CleanDone}
use Rattle.hl_model.specs.Pages.{flushed}
use Rattle.hl_model.specs.Replies.{answer_of}
use Rattle.hl_words.specs.States.{RiderState}
use Rattle.hl_keeper.specs.Calls.{Ends}
use Rattle.hl_keeper.specs.Keepers.{KeeperState}
use Rattle.hl_keeper.specs.Pages.{BroomRecord}
use Rattle.hl_domain.specs.Domains.{DomainState, call_of, MakesUnderLock}
use Rattle.hl_crew.specs.declared.ends.Accepted.{Accepted}
use Rattle.hl_crew.specs.declared.messages.Over.{Over}
use Rattle.hl_crew.specs.Cutting.{CutsJournal}
use Rattle.hl_crew.specs.Goes.{Followed}
use Rattle.hl_crew.specs.Overs.{over_if_refused}

module _ (F : Type 0) (domain : DomainState) where
  -- a step that ends something of this origin was answered so
  abbrev pub EndsOnce : {X : Type 0}
      → Step → ℕ → (KeeperState F → List Step → X) → Result X Fault → RiderState → RiderState → Type 0
  EndsOnce step origin answer result old new =
      MakesUnderLock F domain (call_of step old new) result
      (λ before. Ends before origin step (answer before))

  -- that of an action that was run
  abbrev pub EndsAction : ℕ → ℕ → Result Reply Fault → RiderState → RiderState → Type 0
  EndsAction origin ticket result old new =
      EndsOnce (Done ticket) origin
      (λ before A. answer_of before.core.sizes A (A ++ Done ticket ∷ []) (Done ticket)) result old new

  -- that of a page that was flushed, well or not
  abbrev pub EndsFlush : ℕ → Bool → ℕ → Result ℕ Fault → RiderState → RiderState → Type 0
  EndsFlush page ok stamp result old new =
      EndsOnce (FlushDone page ok) stamp
      (λ before A. flushed before.core.sizes (A ++ FlushDone page ok ∷ [])) result old new

  -- that of a page that was swept
  abbrev pub EndsClean : BroomRecord → Result ℕ Fault → RiderState → RiderState → Type 0
  EndsClean broom result old new =
      EndsOnce (CleanDone broom.page) broom.stamp (λ before A. broom.page) result old new

module _ {X : Type 0} (F : Type 0) (domain : DomainState) (may_cut : Bool)
    (Answered : Result X Fault → RiderState → RiderState → Type 0) where
  -- a try that another follows: it was refused since the journal was full, which may be cut, and then was
  abbrev pub TriesAgain : ℕ → Result Bool Fault → RiderState → RiderState → Type 0
  TriesAgain i next old new =
      (refused : RiderState) × Answered (Err JournalFull) old refused
      × (may_cut ≡ true) × CutsJournal F domain refused new

  -- the last of some tries was answered so. At most a thousand came before it; and as many did, where even
  -- the last was refused since the journal was full, and it may be cut
  pub record Tries (result : Result X Fault) (old new : RiderState) : Type 0 where
    pub before : ℕ
    pub last : RiderState
    pub most : before ≤ 1000
    pub again : Followed TriesAgain before old last
    pub answered : Answered result last new
    pub given_up : result ≡ Err JournalFull → may_cut ≡ true → before ≡ 1000

  -- and this is what its answer means for the turns
  abbrev pub TriesFor : Result Accepted Over → RiderState → RiderState → Type 0
  TriesFor over old new = (result : Result X Fault) × (over ≡ over_if_refused result) × Tries result old new
