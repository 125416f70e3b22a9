-- What a turn's flush did, where the flusher sends the pages.
use Rattle.std.specs.Prelude.{◌≡◌, ◌⊎◌, ℕ, Bool, false, Option, Some, None, Result, Ok, Err, OnOk, MatchResult, List, position, replicate}
use Rattle.std.specs.Result.{result_and}
use Rattle.hl_model.specs.declared.fault.Fault.{Fault}
use Rattle.hl_keeper.specs.declared.load.PageJob.{PageJob}
use Rattle.hl_domain.specs.Domains.{DomainState}
use Rattle.hl_crew.specs.declared.flusher.FlusherState.{FlusherState}
use Rattle.hl_crew.specs.declared.messages.Over.{Over}
use Rattle.hl_crew.specs.declared.messages.Over.TheVariants.{Lost}
use Rattle.hl_crew.specs.Counting.{counted, one_stranger}
use Rattle.hl_crew.specs.Goes.{Each, UpTo}
use Rattle.hl_crew.specs.Overs.{over_of}
use Rattle.hl_crew.specs.Pouches.{is_of, load_count, Answers}
use Rattle.hl_crew.specs.Tries.{EndsFlush}
use Rattle.hl_crew.specs.Turns.{SendState, send_of, SendsPage}

-- what a flusher has while it answers pages: the pouch that holds them as well
pub record HoldState (L : Type 0) : Type 0 where
  pub own : FlusherState L
  pub pouch : List (Option PageJob)

-- one of these
abbrev pub hold_of : {L : Type 0} → FlusherState L → List (Option PageJob) → HoldState L
hold_of own pouch = record { own = own; pouch = pouch }

module _ {L : Type 0} (F : Type 0) (domain : DomainState) where
  -- a page that is held was answered as written or as failed: where the domain accepted that, it was counted,
  -- and the page is held no longer; where it refused it, that is told, and no more was done
  pub record AnswersPage (page : ℕ) (ok : Bool) (result : Result (Unit {0}) Over) (old new : HoldState L)
      : Type 0 where
    pub at : ℕ
    pub place : position (is_of page) old.pouch ≡ Some at
    pub answer : Result ℕ Fault
    pub answers : Answers page at old.pouch new.pouch answer
        (λ stamp. EndsFlush F domain page ok stamp answer old.own.rider new.own.rider)
    pub counts : MatchResult answer
        (λ _. (result ≡ Ok tt)
        × (new.own ≡ record old.own { rider = new.own.rider; counts = counted ok old.own.counts }))
        (λ fault. (result ≡ Err (over_of fault)) × (new.own ≡ record old.own { rider = new.own.rider }))

  -- an acknowledgement of a page was answered: where no such page is held, a stranger was counted, and no
  -- more was done; else the page was answered
  abbrev pub Tells : ℕ → Bool → Result (Unit {0}) Over → HoldState L → HoldState L → Type 0
  Tells page ok result old new =
      ((position (is_of page) old.pouch ≡ None) × (result ≡ Ok tt)
      × (new ≡ hold_of (record old.own { counts = one_stranger old.own.counts }) old.pouch))
      ⊎ AnswersPage page ok result old new

  -- an acknowledgement was received and answered; or the channel failed, or an answer was refused
  abbrev pub TellsNext : ℕ → Result Bool Over → HoldState L → HoldState L → Type 0
  TellsNext = Each (λ i result old new.
      ((result ≡ Err Lost) × (new ≡ old)) ⊎ ((page : ℕ) × (ok : Bool) × Tells page ok result old new))

  -- a page that was left was answered as failed; or that was refused
  abbrev pub FailsNext : ℕ → Result Bool Over → HoldState L → HoldState L → Type 0
  FailsNext = Each (λ i result old new. (page : ℕ) × AnswersPage page false result old new)

  -- pages were sent, from an empty pouch on; then as many acknowledgements as were sent were answered, one
  -- after another; then each page that was left was answered as failed. The first of these parts that failed
  -- tells how
  pub record AreFlushed (result : Result (Unit {0}) Over) (old new : FlusherState L) : Type 0 where
    pub sent : Result (Unit {0}) Over
    pub sender : SendState
    pub sends : UpTo (SendsPage F domain) 4 sent (send_of old.rider (replicate 4 None) 0) sender
    pub all_held : OnOk sent (sender.sent ≡ load_count sender.pouch)
    pub told : Result (Unit {0}) Over
    pub mid : HoldState L
    pub tells : UpTo TellsNext sender.sent told
        (hold_of (record old { rider = sender.rider }) sender.pouch) mid
    pub failed : Result (Unit {0}) Over
    pub left : List (Option PageJob)
    pub fails : UpTo FailsNext (load_count mid.pouch) failed mid (hold_of new left)
    pub ends : result ≡ result_and (result_and sent told) failed
