-- A session has all that lies below an address written to the log's device, and waits for it.
use Rattle.std.specs.Prelude.{◌≡◌, ◌⊎◌, ℕ, ◌+◌, ◌-◌, ◌*◌, ◌/◌, ◌%◌, ◌<◌, ◌≤◌, nat_le, nat_lt, min, Bool, not, false, ◌&&◌, if◌then◌else◌, is_ok, Option, Some, None, MatchResult, Result, Ok, Err, ◌++◌, ◌∷◌, []}
use Rattle.hl_model.specs.declared.fault.Fault.{Fault}
use Rattle.hl_model.specs.declared.fault.Fault.TheVariants.{AboveTail, AboveFlushed, Device}
use Rattle.hl_model.specs.declared.snapshot.Snapshot.{Snapshot}
use Rattle.hl_model.specs.declared.step.Step.TheVariants.{Raise as RAISE}
use Rattle.hl_model.specs.declared.view.Six.{Six}
use Rattle.hl_model.specs.Offsets.{read_only}
use Rattle.hl_action.specs.Firings.{FiringRecord}
use Rattle.hl_action.specs.Jobs.{KeptRecord}
use Rattle.hl_drain.specs.declared.action.Ask.{Ask}
use Rattle.hl_drain.specs.declared.action.Ask.TheVariants.{Settle as SETTLE}
use Rattle.hl_words.specs.States.{RiderState}
use Rattle.hl_keeper.specs.Calls.{Makes}
use Rattle.hl_keeper.specs.Passes.{seen, with_rider, with_tail}
use Rattle.hl_domain.specs.Domains.{DomainState, call_of, with_held, MakesUnderLock}
use Rattle.hl_domain.specs.Riders.{Allocates, Bumps, LooksAtAll}
use Rattle.hl_crew.specs.Goes.{Followed}
use Rattle.hl.specs.declared.refused.Refused.{Refused}
use Rattle.hl.specs.declared.session.flush.Due.{Due}
use Rattle.hl.specs.declared.session.flush.Due.TheVariants.{Pad, Raise, Settle, Wait}
use Rattle.hl.specs.declared.session.tries.Cure.TheVariants.{Others}
use Rattle.hl.specs.declared.session.tries.Helped.{Helped}
use Rattle.hl.specs.Attempts.{SessionHelps}
use Rattle.hl.specs.Sessions.{SessionState, fault_alone, with_pass, KeepsAllButRider}
use Rattle.hl.specs.Traces.{OnlyPads}

-- how many rounds a flush at a log's end makes at most
abbrev pub flush_rounds : ℕ
flush_rounds = 100000

-- what is asked of a job's answer where nothing is
abbrev pub keeps_any : ℕ → FiringRecord → ℕ → Type 0
keeps_any tag firing answer = answer ≡ answer

-- where the page of the last word below an address ends: so many whole pages, and one more if words are left
abbrev pub page_end : ℕ → ℕ → ℕ
page_end page_size a = page_size * (a / page_size + min 1 (a % page_size))

-- what a flush up to an address is answered at these offsets: they are that far, or nothing was placed there; else it goes on
abbrev pub answer_at : Six → ℕ → Option (Result ℕ Fault)
answer_at six a =
    if nat_le a six.flushed then Some (Ok six.flushed)
    else (if nat_lt six.tail a then Some (Err AboveTail) else None)

-- what is due so that all below an address, of which not all is flushed, is written: the rest of its page is to be placed;
-- or the read-only offset to be raised to that page's end; or a settle to be stored, unless one was; or others have to act
abbrev pub due_at : ℕ → Six → ℕ → Bool → Due
due_at page_size six a asked =
    let end = page_end page_size a in
    if nat_lt six.tail end then Pad (end - six.tail)
    else (if nat_lt six.read_only end then Raise end
    else (if nat_lt six.safe_read_only end && not asked then Settle else Wait))

module _ (F : Type 0) where
  -- a rider asked for the read-only offset to be raised, and was answered so
  abbrev pub Raises : DomainState → ℕ → Result ℕ Fault → RiderState → RiderState → Type 0
  Raises log x result old new = MakesUnderLock F log (call_of (RAISE x) old new) result (λ keeper.
      Makes keeper (RAISE x) (λ A. read_only (A ++ RAISE x ∷ [])))

  -- a session asked for n words, and was answered so
  abbrev pub Asks : ℕ → Result ℕ Fault → SessionState → SessionState → Type 0
  Asks n result old new = let pass = with_rider new.pass.rider old.pass in
      Allocates F old.log n result old.pass new.pass.rider × MatchResult result
      (λ a. new ≡ with_pass (with_held pass.epoch (with_tail (a + n) (seen pass)) pass) old)
      (λ _. new ≡ with_pass pass old)

  -- a session did what was due, however that was answered; and whether a settle was stored by then
  abbrev pub DoesDue : Due → Bool → Bool → SessionState → SessionState → Type 0
  DoesDue (Pad n) asked by_then old new = (by_then ≡ asked) × (answer : Result ℕ Fault) × Asks n answer old new
  DoesDue (Raise x) asked by_then old new = (by_then ≡ asked) × (answer : Result ℕ Fault)
      × Raises old.log x answer old.pass.rider new.pass.rider × KeepsAllButRider old new
  DoesDue Settle asked by_then old new = (answer : Result ℕ (Refused (Ask (KeptRecord F)))) × (by_then ≡ is_ok answer)
      × Bumps F old.log SETTLE fault_alone answer old.pass.rider new.pass.rider × KeepsAllButRider old new
  DoesDue Wait asked by_then old new = (by_then ≡ asked) × (new ≡ old)

  -- a session was told all quantities, by its rider
  abbrev pub Looks : Snapshot × ℕ × ℕ → SessionState → SessionState → Type 0
  Looks told old new = LooksAtAll F old.log told old.pass.rider new.pass.rider × KeepsAllButRider old new

  module _ (gives : F → FiringRecord → ℕ → Type 0) (keeps : ℕ → FiringRecord → ℕ → Type 0) where
    -- a round: a session found that not all below the address was flushed, did what was due, and helped the log on
    pub record FlushRound (a : ℕ) (asked by_then : Bool) (old new : SessionState) : Type 0 where
      pub told : Snapshot × ℕ × ℕ
      pub looked : SessionState
      pub looks : Looks told old looked
      pub going : answer_at told.0.six a ≡ None
      pub did : SessionState
      pub does : DoesDue (due_at old.log.sizes.page_size told.0.six a asked) asked by_then looked did
      pub help : Helped
      pub helps : SessionHelps gives keeps did Others help new

    -- another round may follow
    abbrev pub FlushNext : ℕ → ℕ → Result Bool Fault → Bool × SessionState → Bool × SessionState → Type 0
    FlushNext a i next old new = FlushRound a old.0 new.0 old.1 new.1

    -- after some rounds, so many at most, a session was told the flushed offset, not below the address; or that nothing was
    -- placed there; or that so many rounds were made in vain, and whether the device refused to write
    pub record Flushes (a again : ℕ) (result : Result ℕ Fault) (old new : SessionState) : Type 0 where
      pub rounds : ℕ
      pub most : rounds ≤ again
      pub last : Bool × SessionState
      pub before : Followed (FlushNext a) rounds (false, old) last
      pub told : Snapshot × ℕ × ℕ
      pub looks : Looks told last.1 new
      pub answer : (answer_at told.0.six a ≡ Some result) ⊎ ((answer_at told.0.six a ≡ None)
          × (rounds ≡ again) × ((result ≡ Err Device) ⊎ (result ≡ Err AboveFlushed)))

    -- a session flushed the whole log, up to the tail that it was told first
    pub record FlushesLog (again : ℕ) (old new : SessionState) (out : Result ℕ Fault) : Type 0 where
      pub told : Snapshot × ℕ × ℕ
      pub looked : SessionState
      pub looks : Looks told old looked
      pub flushes : Flushes told.0.six.tail again out looked new
      pub pads : OnlyPads old new
