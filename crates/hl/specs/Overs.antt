-- A session is told whether an action is over, and waits until it is.
use Rattle.std.specs.Prelude.{◌≡◌, ◌==◌, ℕ, Bool, true, false, Result, Ok, Err, MatchResult, List}
use Rattle.std.specs.List.{list_any}
use Rattle.hl_model.specs.declared.fault.Fault.{Fault}
use Rattle.hl_model.specs.declared.step.Step.{Step}
use Rattle.hl_model.specs.Actions.{actions, is_finished}
use Rattle.hl_action.specs.Firings.{FiringRecord}
use Rattle.hl_core.specs.Holding.{is_over}
use Rattle.hl_words.specs.States.{RiderState}
use Rattle.hl_keeper.specs.Passes.{PassRecord, with_rider}
use Rattle.hl_domain.specs.Domains.{DomainState}
pub use Rattle.hl_domain.specs.Riders.{LooksAtOver}
use Rattle.hl_crew.specs.declared.limits.Cuts.{Cuts}
use Rattle.hl_crew.specs.Goes.{Followed}
use Rattle.hl.specs.Helps.{Helps}

module _ (F : Type 0) (log : DomainState) (cuts : Cuts)
    (gives : F → FiringRecord → ℕ → Type 0) (keeps : ℕ → FiringRecord → ℕ → Type 0) where
  -- a session was told that it isn't over, and made a round of help, which was answered so
  pub record HelpsOn (ticket : ℕ) (help : Result Bool Fault) (old new : PassRecord) : Type 0 where
    pub looked : RiderState
    pub looks : LooksAtOver F log ticket false old.rider looked
    pub helps : Helps F log cuts gives keeps help (with_rider looked old) new

  -- such a round that wasn't refused: another may follow
  abbrev pub HelpsNext : ℕ → ℕ → Result Bool Fault → PassRecord → PassRecord → Type 0
  HelpsNext ticket i next old new = (did : Bool) × HelpsOn ticket (Ok did) old new

  -- after some rounds the session was told that it is over; or a round more was refused so
  pub record WaitsUntilOver (ticket : ℕ) (result : Result Unit Fault) (old new : PassRecord) : Type 0 where
    pub rounds : ℕ
    pub last : PassRecord
    pub before : Followed (HelpsNext ticket) rounds old last
    pub ended : MatchResult result
        (λ _. LooksAtOver F log ticket true last.rider new.rider × (new ≡ with_rider new.rider last))
        (λ fault. HelpsOn ticket (Err fault) last new)

-- of a ticket under which an action was stored, and which is over, there was a done
abbrev pub OverWereDone : Type 0
OverWereDone = (A : List Step) (c : ℕ) → list_any (λ w. w.ticket == c) (actions A) ≡ true → is_over c A ≡ true
    → is_finished c A ≡ true
