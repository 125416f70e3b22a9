-- What seals all up to the tail, and what a log makes of it.
use Rattle.std.specs.Prelude.{◌≡◌, ℕ, ◌+◌, ◌-◌, ◌%◌, nat_lt, Bool, true, if◌then◌else◌, Option, Some, None, is_none, MatchOption, Result, Ok, Err, MatchResult, List, [], ◌∷◌, ◌++◌}
use Rattle.hl_model.specs.declared.action.Kind.TheVariants.{Settle as Settling}
use Rattle.hl_model.specs.declared.action.Waiting.{Waiting}
use Rattle.hl_model.specs.declared.fault.Fault.{Fault}
use Rattle.hl_model.specs.declared.fault.Fault.TheVariants.{Stranger}
use Rattle.hl_model.specs.declared.step.Reply.{Reply}
use Rattle.hl_model.specs.declared.step.Reply.TheVariants.{Ticket}
use Rattle.hl_model.specs.declared.step.Step.{Step}
use Rattle.hl_model.specs.declared.step.Step.TheVariants.{Allocate, Raise, Settle, Look}
use Rattle.hl_model.specs.declared.view.Six.{Six}
use Rattle.hl_model.specs.Actions.{bumps, actions}
use Rattle.hl_model.specs.Offsets.{read_only, tail}
use Rattle.hl_model.specs.Settled.{safe_read_only}
use Rattle.hl_model.specs.Sizes.{Sizes}
use Rattle.hl_model.specs.Snapshots.{six}
use Rattle.hl_model.specs.Views.{slot_view}
use Rattle.hl_model.specs.Replies.{fault_of, or_fault, unless_fault, answer_of}
use Rattle.hl_lag.specs.Lag.{step_if}
use Rattle.hl_pass.specs.Calls.{looked}
use Rattle.hl_pass.specs.Passes.{rested_in}
use Rattle.hl_log.specs.declared.sealed.Sealed.{Sealed}
use Rattle.hl_log.specs.Calls.{stamp_at, is_known, KnownAt}
use Rattle.hl_log.specs.Logs.{StandsAt}
use Rattle.hl_log.specs.Passes.{with_own, IsRisen}
use Rattle.hl_log.specs.States.{LogState, PassState}

-- how many words are left of the tail's page: none where a page begins there
abbrev pub words_left : ℕ → ℕ → ℕ
words_left page_size tail = (page_size - tail % page_size) % page_size

-- where the tail's page ends: the tail itself where a page begins there
abbrev pub page_end : ℕ → ℕ → ℕ
page_end page_size tail = tail + words_left page_size tail

-- the steps that seal all up to the tail, for slot t: the words that are left of its page are allocated, the read-only
-- offset is raised to the page's end, and a settle follows, each where it is due
abbrev pub seal_of : ℕ → ℕ → Six → List Step
seal_of page_size t six =
    step_if (nat_lt 0 (words_left page_size six.tail)) (Allocate t (words_left page_size six.tail))
    ++ step_if (nat_lt six.read_only (page_end page_size six.tail)) (Raise (page_end page_size six.tail))
    ++ step_if (nat_lt six.safe_read_only (page_end page_size six.tail)) Settle

-- the list with these steps, each behind those before it, up to the first that is refused
unfoldable pub made_in : Sizes → List Step → List Step → List Step
made_in sizes A [] = A
made_in sizes A (s ∷ L) = if is_none (fault_of sizes A s) then made_in sizes (A ++ s ∷ []) L else A

-- the fault of the first that is refused
unfoldable pub first_fault : Sizes → List Step → List Step → Option Fault
first_fault sizes A [] = None
first_fault sizes A (s ∷ L) = or_fault (fault_of sizes A s) (first_fault sizes (A ++ s ∷ []) L)

-- the fault of an answer
abbrev pub fault_in : {X : Type 0} → Result X Fault → Option Fault
fault_in (Ok x) = None
fault_in (Err fault) = Some fault

-- a log that stood at A made these steps, each behind those before it, up to the first that it refused
pub record Goes {X : Type 0} (old : LogState) (A L : List Step) (new : LogState) (result : Result X Fault)
    : Type 0 where
  pub met : fault_in result ≡ first_fault old.core.sizes A L
  pub sizes : new.core.sizes ≡ old.core.sizes
  pub standing : StandsAt new (made_in old.core.sizes A L)

-- the reply to a step, where it is due
abbrev pub reply_if : Bool → LogState → List Step → Step → Option Reply
reply_if due log A step = if due then Some (answer_of log.core.sizes A (A ++ step ∷ []) step) else None

-- the ticket that a reply tells
abbrev pub ticket_told : Option Reply → Option ℕ
ticket_told (Some (Ticket ticket)) = Some ticket
ticket_told _ = None

-- the same words, stamps and number of riders left
pub record IsAlike (old new : LogState) : Type 0 where
  pub shared : new.shared ≡ old.shared
  pub stamps : new.stamps ≡ old.stamps
  pub left : new.master.left ≡ old.master.left

-- what is answered where each step that was due at these offsets was made: the page's end, and the settle's ticket, if it
-- was due, where B is the list with these steps
abbrev pub sealed_at : ℕ → Six → List Step → Sealed
sealed_at page_size six B = record {
  address = page_end page_size six.tail;
  ticket = if nat_lt six.safe_read_only (page_end page_size six.tail) then Some (bumps B) else None;
}

-- the steps that are due at A for slot t
abbrev pub due_at : Sizes → ℕ → List Step → List Step
due_at sizes t A = seal_of sizes.page_size t (six sizes A)

-- the answer to a seal at A for slot t: the fault of the first step that is refused, if one is
abbrev pub sealed_for : Sizes → ℕ → List Step → Result Sealed Fault
sealed_for sizes t A = unless_fault (first_fault sizes A (due_at sizes t A))
    (sealed_at sizes.page_size (six sizes A) (made_in sizes A (due_at sizes t A)))

-- a log that stood at A sealed so, for slot t
pub record SealsFor (t : ℕ) (old : LogState) (A : List Step) (new : LogState) (result : Result Sealed Fault)
    : Type 0 where
  pub reply : result ≡ sealed_for old.core.sizes t A
  pub sizes : new.core.sizes ≡ old.core.sizes
  pub standing : StandsAt new (made_in old.core.sizes A (due_at old.core.sizes t A))

-- the answer to a seal by a pass: that the pass is a stranger, with the slot's stamp, or that behind the list and what
-- the pass saw
abbrev pub seal_reply : LogState → List Step → PassState → Result Sealed Fault
seal_reply log A p =
    if is_known log A p then sealed_for log.core.sizes p.own.slot (looked log.core.sizes A p.own)
    else Err (Stranger (stamp_at log A p.own.slot))

-- the list after it: with the steps that are due behind what the pass saw
abbrev pub seal_list : LogState → List Step → PassState → List Step
seal_list log A p =
    if is_known log A p
    then (let B = looked log.core.sizes A p.own
    in made_in log.core.sizes B (due_at log.core.sizes p.own.slot B))
    else A

-- the pass after it: a stranger is as it was, any other has its slot's view
abbrev pub seal_pass : LogState → List Step → PassState → PassState
seal_pass log A p =
    if is_known log A p
    then with_own (rested_in (slot_view log.core.sizes p.own.slot (seal_list log A p)) p.own.epoch p.own) p
    else p

-- a log that stood at A sealed so, for a pass
pub record Sealing (old : LogState) (A : List Step) (p : PassState) (new : LogState) (q : PassState)
    (result : Result Sealed Fault) : Type 0 where
  pub reply : result ≡ seal_reply old A p
  pub sizes : new.core.sizes ≡ old.core.sizes
  pub standing : StandsAt new (seal_list old A p)
  pub pass : q ≡ seal_pass old A p

-- at A all lies below this address, where a page begins, and is read-only; it is sealed, or will be once the action that
-- was stored last is done, a settle of this ticket
pub record IsSealedBy (sizes : Sizes) (sealed : Sealed) (A : List Step) : Type 0 where
  pub whole : sealed.address % sizes.page_size ≡ 0
  pub all : tail sizes A ≡ sealed.address
  pub read_only_is : read_only A ≡ sealed.address
  pub safe : MatchOption sealed.ticket (safe_read_only A ≡ sealed.address) (λ ticket. (earlier : List Waiting)
      × (actions A ≡ earlier ++ record { ticket = ticket; kind = Settling sealed.address } ∷ []))

-- where a seal leads: to such a list, or, where it was refused, to one at which a settle has that fault
abbrev pub Leads : Sizes → Result Sealed Fault → List Step → Type 0
Leads sizes result B = MatchResult result (λ sealed. IsSealedBy sizes sealed B)
    (λ fault. fault_of sizes B Settle ≡ Some fault)

-- so a log sealed at whatever list it stood, with the same words, stamps and number of riders left. A pass that was no
-- stranger is none then, if its slot is still protected, and what it saw was accepted, as a look
pub record Seals (old : LogState) (p : PassState) (new : LogState) (q : PassState) (result : Result Sealed Fault)
    : Type 0 where
  pub sealing : (A : List Step) → StandsAt old A → Sealing old A p new q result
  pub leads : (A : List Step) → StandsAt old A → is_known old A p ≡ true
      → Leads old.core.sizes result (seal_list old A p)
  pub beside : IsAlike old new
  pub known : (A : List Step) → StandsAt old A → is_known old A p ≡ true → KnownAt new (seal_list old A p) q
  pub entered : (A : List Step) → StandsAt old A → is_known old A p ≡ true → IsRisen p
      → fault_of old.core.sizes A (Look p.own.slot p.own.view.read_only p.own.view.head) ≡ None
  pub risen : IsRisen p → IsRisen q
