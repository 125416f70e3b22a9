-- What is tried again while the journal is full and is cut.
use Rattle.std.proofs.Common.{◌≡◌, ◌∙◌, ℕ, ◌+◌, ◌≤◌, Bool, true, false, refl, ap, inl, inr, sym, subst, arith}
use Rattle.std.specs.Prelude.{◌&&◌, ◌⊎◌, Result, Ok, Err}
use Rattle.hl_model.specs.declared.fault.Fault.{Fault}
use Rattle.hl_model.specs.declared.fault.Fault.TheVariants.{Empty, JournalFull, NotReady}
use Rattle.hl_words.specs.States.{RiderState}
use Rattle.hl_domain.specs.Domains.{DomainState}
use Rattle.hl_crew.specs.Cutting.{CutsJournal}
use Rattle.hl_crew.specs.Goes.{Followed}
use Rattle.hl_crew.specs.Overs.{is_full, is_none_ready}
use Rattle.hl_crew.specs.Tries.{TriesAgain, Tries}
use Rattle.hl_crew.proofs.GoesLaws.{followed_more}

-- a refusal after which room was made is that of a full journal
pub full_fault : (fault : Fault) (room : Bool) → true ≡ (room && is_full fault) → fault ≡ JournalFull
full_fault JournalFull room is = refl
full_fault _ true is = absurd cc
full_fault _ false is = absurd cc

-- and the limits make room
pub room_made : (room full : Bool) → true ≡ (room && full) → room ≡ true
room_made true full is = refl
room_made false full is = absurd cc

-- where room wasn't made, the journal is not full, or the limits make none
pub full_without_room : (fault : Fault) (room : Bool) → false ≡ (room && is_full fault) → fault ≡ JournalFull → room ≡ true → ⊥
full_without_room fault room is full makes =
    let no : false ≡ true = is ∙ ap (λ room. room && is_full fault) makes ∙ ap is_full full in
    absurd cc

-- these are the refusals of a take for want of an action that is ready
pub none_is_ready : (fault : Fault) → ((fault ≡ Empty) ⊎ ((front : ℕ) × (safe : ℕ) × (fault ≡ NotReady front safe))) → is_none_ready fault ≡ true
none_is_ready fault (inl is) = ap is_none_ready is
none_is_ready fault (inr told) = ap is_none_ready told.2

-- so many tries were made, and another follows each
pub record Trying {X : Type 0} (F : Type 0) (domain : DomainState) (may_cut : Bool) (Answered : Result X Fault → RiderState → RiderState → Type 0) (n : ℕ) (old new : RiderState) : Type 0 where
  pub again : Followed (TriesAgain F domain may_cut Answered) n old new

module _ {X : Type 0} {F : Type 0} {domain : DomainState} {may_cut : Bool} {Answered : Result X Fault → RiderState → RiderState → Type 0} {n : ℕ} {old last new : RiderState} where
  -- a refusal after which room was made
  pub tries_again : {fault : Fault} {refused : RiderState} → Trying F domain may_cut Answered n old last → Answered (Err fault) last refused → true ≡ (may_cut && is_full fault) → CutsJournal F domain refused new → Trying F domain may_cut Answered (n + 1) old new
  tries_again {fault} {refused} before answered room cut = record {
    again = followed_more (TriesAgain F domain may_cut Answered) n old last new before.again
        (refused, subst (λ fault. Answered (Err fault) last refused) (full_fault fault _ room) answered, room_made _ _ room, cut);
  }

  -- the last try was accepted
  pub tries_accepted : {x : X} → Trying F domain may_cut Answered n old last → Answered (Ok x) last new → n ≤ 1000 → Tries F domain may_cut Answered (Ok x) old new
  tries_accepted before answered most =
      record { before = n; last = last; most = most; again = before.again; answered = answered; given_up = λ full. absurd cc }

  -- it was refused, and no room was made
  pub tries_refused : {fault : Fault} {refused : RiderState} → Trying F domain may_cut Answered n old last → Answered (Err fault) last refused → n ≤ 1000 → false ≡ (may_cut && is_full fault) → new ≡ refused → Tries F domain may_cut Answered (Err fault) old new
  tries_refused {fault} before answered most room same = record {
    before = n;
    last = last;
    most = most;
    again = before.again;
    answered = subst (λ new. Answered (Err fault) last new) (sym same) answered;
    given_up = λ full makes. absurd (full_without_room fault _ room (cc full) makes);
  }

  -- it came after a thousand others
  pub tries_all : {result : Result X Fault} → Trying F domain may_cut Answered n old last → Answered result last new → n ≡ 1000 → Tries F domain may_cut Answered result old new
  tries_all before answered all =
      record { before = n; last = last; most = omega (arith, all); again = before.again; answered = answered; given_up = λ full makes. all }
