-- What each step is answered, and which steps of a list are accepted.
use Rattle.std.specs.Prelude.{ℕ, ◌≡◌, ◌+◌, ◌-◌, ◌/◌, ◌%◌, ◌==◌, nat_le, nat_lt, ◌^◌, ◌||◌, if◌then◌else◌, Option, Some, None, is_none, unwrap_or, Result, Ok, Err, List, [], ◌∷◌, ◌++◌, length}
use Rattle.hl_model.specs.declared.action.Kind.{Kind}
use Rattle.hl_model.specs.declared.action.Kind.TheVariants.{User, Settle as Settling, Close as Closing}
use Rattle.hl_model.specs.declared.action.Waiting.{Waiting}
use Rattle.hl_model.specs.declared.fault.Fault.{Fault}
use Rattle.hl_model.specs.declared.fault.Fault.TheVariants.{NoSlot, Occupied, NotProtected, Stale, DrainFull, EpochsSpent, Empty, NotReady, NotTaken, NotAbove, AboveTail, NotPage, AboveFlushed, Size, Busy, SpaceSpent, Below, Beyond, Evicted, NoneSealed, NotInFlight, NoneClosed, NotCleaning, WindowFull}
use Rattle.hl_model.specs.declared.step.Reply.{Reply}
use Rattle.hl_model.specs.declared.step.Reply.TheVariants.{Entered, Left, Ticket, Bumped, Taken, Ran, Settled, Closed, Raised, Shifted, At, Looked, Written, Readable, Value, Page, Flushed, Freed}
use Rattle.hl_model.specs.declared.step.Step.{Step}
use Rattle.hl_model.specs.declared.step.Step.TheVariants.{Acquire, Refresh, Release, Bump, Settle, Close, Bare, Take, Done, Raise, Shift, Allocate, Look, Write, Read, FlushTake, FlushDone, CleanTake, CleanDone}
use Rattle.hl_model.specs.Lists.{gather}
use Rattle.hl_model.specs.Sizes.{Sizes}
use Rattle.hl_model.specs.Epochs.{epoch_window, current_epoch, is_protected, epoch_of, safe_epoch}
use Rattle.hl_model.specs.Actions.{bumps, front, pending, is_taken, is_full, action_at}
use Rattle.hl_model.specs.Offsets.{read_only, head, tail, place_of, is_entered}
use Rattle.hl_model.specs.Settled.{safe_read_only, closed}
use Rattle.hl_model.specs.Views.{seen_read_only, seen_head, seen_tail, view_of}
use Rattle.hl_model.specs.Pages.{is_in_flight, is_cleaning, next_to_flush, next_to_clean, flushed}
use Rattle.hl_model.specs.Frames.{may_enter}
use Rattle.hl_model.specs.Words.{word}

-- the greatest epoch
abbrev pub epoch_last : ℕ
epoch_last = 2 ^ 62

-- the fault of a step that wants slot t unprotected: there is no such slot, or it is protected
abbrev pub acquire_fault : Sizes → List Step → ℕ → Option Fault
acquire_fault sizes A t =
    if nat_le sizes.slots t then Some NoSlot else if is_protected t A then Some Occupied else None

-- the fault of a step that wants slot t protected
abbrev pub protected_fault : Sizes → List Step → ℕ → Option Fault
protected_fault sizes A t =
    if nat_le sizes.slots t then Some NoSlot else if is_protected t A then None else Some NotProtected

-- the fault of a bare bump: the current epoch is the last, or as many epochs have ended and are not safe as
-- the window allows
abbrev pub bare_fault : Sizes → List Step → Option Fault
bare_fault sizes A =
    if current_epoch A == epoch_last then Some EpochsSpent
    else if current_epoch A - 1 - safe_epoch sizes.slots A == epoch_window then Some WindowFull
    else None

-- the fault of a bump that stores an action
abbrev pub bump_fault : Sizes → List Step → Option Fault
bump_fault sizes A = if is_full sizes.drain A then Some DrainFull else bare_fault sizes A

-- the fault of a take
abbrev pub take_fault : Sizes → List Step → Option Fault
take_fault sizes A =
    if length (pending A) == 0 then Some Empty
    else if nat_lt (safe_epoch sizes.slots A) (front A)
    then Some (NotReady (front A) (safe_epoch sizes.slots A))
    else None

-- the one fault, and the other where there is none
abbrev pub or_fault : Option Fault → Option Fault → Option Fault
or_fault None other = other
or_fault (Some fault) other = Some fault

-- the fault of a raise of the read-only offset to x
abbrev pub raise_fault : ℕ → ℕ → ℕ → Option Fault
raise_fault read_only tail x =
    if nat_le x read_only then Some NotAbove else if nat_lt tail x then Some AboveTail else None

-- the fault of a shift of the head to x
abbrev pub shift_fault : ℕ → ℕ → ℕ → ℕ → Option Fault
shift_fault page_size head flushed x =
    if nat_le x head then Some NotAbove
    else if x % page_size == 0 then (if nat_lt flushed x then Some AboveFlushed else None) else Some NotPage

-- the fault of a record of n words: its size, or an end above the last address
abbrev pub size_fault : ℕ → ℕ → ℕ → Option Fault
size_fault page_size tail n =
    if n == 0 || nat_lt page_size n then Some Size
    else if nat_lt (2 ^ 48) (place_of page_size tail n + n) then Some SpaceSpent
    else None

-- the fault of a record's page: it isn't entered and may not be
abbrev pub page_fault : Sizes → List Step → ℕ → Option Fault
page_fault sizes A q = if is_entered sizes q A || may_enter sizes q A then None else Some (Busy q)

-- the fault of an allocation of n words
abbrev pub allocate_fault : Sizes → List Step → ℕ → Option Fault
allocate_fault sizes A n =
    or_fault (size_fault sizes.page_size (tail sizes A) n)
    (page_fault sizes A (place_of sizes.page_size (tail sizes A) n / sizes.page_size))

-- the fault of a look that slot t takes at these offsets
abbrev pub look_fault : List Step → ℕ → ℕ → ℕ → Option Fault
look_fault A t read_only head =
    if nat_lt read_only (seen_read_only t A) || nat_lt head (seen_head t A) then Some Stale else None

-- the fault of an address at or above the tail that slot t saw
abbrev pub beyond_fault : Sizes → List Step → ℕ → ℕ → Option Fault
beyond_fault sizes A t a =
    if nat_le (seen_tail sizes t A) a then Some (Beyond (seen_tail sizes t A)) else None

-- the fault of a write by slot t at address a
abbrev pub write_fault : Sizes → List Step → ℕ → ℕ → Option Fault
write_fault sizes A t a =
    if nat_lt a (seen_read_only t A) then Some (Below (seen_read_only t A)) else beyond_fault sizes A t a

-- the fault of a read by slot t at address a
abbrev pub read_fault : Sizes → List Step → ℕ → ℕ → Option Fault
read_fault sizes A t a =
    if nat_lt a (seen_head t A) then Some (Evicted (seen_head t A)) else beyond_fault sizes A t a

-- the fault where there is no page
abbrev pub unless_page : Fault → Option ℕ → Option Fault
unless_page fault None = Some fault
unless_page fault (Some p) = None

-- the fault that a step meets after the list A, the first that holds
abbrev pub fault_of : Sizes → List Step → Step → Option Fault
fault_of sizes A (Acquire t) = acquire_fault sizes A t
fault_of sizes A (Refresh t) = protected_fault sizes A t
fault_of sizes A (Release t) = protected_fault sizes A t
fault_of sizes A (Bump tag) = bump_fault sizes A
fault_of sizes A Settle = bump_fault sizes A
fault_of sizes A Close = bump_fault sizes A
fault_of sizes A Bare = bare_fault sizes A
fault_of sizes A Take = take_fault sizes A
fault_of sizes A (Done ticket) = if is_taken ticket A then None else Some NotTaken
fault_of sizes A (Raise x) = raise_fault (read_only A) (tail sizes A) x
fault_of sizes A (Shift x) = shift_fault sizes.page_size (head A) (flushed sizes A) x
fault_of sizes A (Allocate t n) = or_fault (protected_fault sizes A t) (allocate_fault sizes A n)
fault_of sizes A (Look t read_only head) =
    or_fault (protected_fault sizes A t) (look_fault A t read_only head)
fault_of sizes A (Write t a v) = or_fault (protected_fault sizes A t) (write_fault sizes A t a)
fault_of sizes A (Read t a) = or_fault (protected_fault sizes A t) (read_fault sizes A t a)
fault_of sizes A FlushTake = unless_page NoneSealed (next_to_flush sizes A)
fault_of sizes A (FlushDone page ok) = if is_in_flight sizes page A then None else Some NotInFlight
fault_of sizes A CleanTake = unless_page NoneClosed (next_to_clean sizes A)
fault_of sizes A (CleanDone page) = if is_cleaning sizes page A then None else Some NotCleaning

-- the answer to a done, by the action's kind
abbrev pub done_answer : List Step → Kind → Reply
done_answer B (User tag) = Ran tag
done_answer B (Settling x) = Settled (safe_read_only B)
done_answer B (Closing x) = Closed (closed B)

-- the kind of the action, and a job of tag 0 where there is none, which no accepted done names
abbrev pub kind_or_job_0 : Option Waiting → Kind
kind_or_job_0 None = User 0
kind_or_job_0 (Some w) = w.kind

-- the answer to an accepted step, where A is the list before it and B the list with it; page 0 where no page
-- is to be taken, which no accepted take meets
abbrev pub answer_of : Sizes → List Step → List Step → Step → Reply
answer_of sizes A B (Acquire t) = Entered (epoch_of t B) (view_of sizes t B)
answer_of sizes A B (Refresh t) = Entered (epoch_of t B) (view_of sizes t B)
answer_of sizes A B (Release t) = Left
answer_of sizes A B (Bump tag) = Ticket (bumps B)
answer_of sizes A B Settle = Ticket (bumps B)
answer_of sizes A B Close = Ticket (bumps B)
answer_of sizes A B Bare = Bumped (bumps B)
answer_of sizes A B Take = Taken (front A)
answer_of sizes A B (Done ticket) = done_answer B (kind_or_job_0 (action_at ticket B))
answer_of sizes A B (Raise x) = Raised (read_only B)
answer_of sizes A B (Shift x) = Shifted (head B)
answer_of sizes A B (Allocate t n) = At (place_of sizes.page_size (tail sizes A) n)
answer_of sizes A B (Look t read_only head) = Looked (view_of sizes t B)
answer_of sizes A B (Write t a v) = Written
answer_of sizes A B (Read t a) = Readable
answer_of sizes A B FlushTake = Page (unwrap_or (next_to_flush sizes A) 0)
answer_of sizes A B (FlushDone page ok) = Flushed (flushed sizes B)
answer_of sizes A B CleanTake = Page (unwrap_or (next_to_clean sizes A) 0)
answer_of sizes A B (CleanDone page) = Freed page

-- a fault if there is one, else the answer
abbrev pub unless_fault : {X : Type 0} → Option Fault → X → Result X Fault
unless_fault None x = Ok x
unless_fault (Some fault) x = Err fault

-- the old value where there is a fault, the new one where there is none
abbrev pub unless_refused : {X : Type 0} → Option Fault → X → X → X
unless_refused None old new = new
unless_refused (Some fault) old new = old

-- the reply to a step after the list A
abbrev pub reply_of : Sizes → List Step → Step → Result Reply Fault
reply_of sizes A s = unless_fault (fault_of sizes A s) (answer_of sizes A (A ++ s ∷ []) s)

-- the list with the step, where it is accepted
abbrev pub extended : Sizes → List Step → Step → List Step
extended sizes A s = if is_none (fault_of sizes A s) then A ++ s ∷ [] else A

-- A with the steps of L that are accepted, each after those before it
unfoldable pub good_after : Sizes → List Step → List Step → List Step
good_after sizes A [] = A
good_after sizes A (s ∷ L) = good_after sizes (extended sizes A s) L

-- the accepted steps of a list
unfoldable pub good : Sizes → List Step → List Step
good sizes L = good_after sizes [] L

-- a list of which each step is accepted
abbrev pub IsAccepted : Sizes → List Step → Type 0
IsAccepted sizes A = good sizes A ≡ A

-- the replies to the steps of L, each after the accepted ones of A and of those before it
unfoldable pub replies_after : Sizes → List Step → List Step → List (Result Reply Fault)
replies_after sizes A L = gather (λ before s. reply_of sizes (good sizes (A ++ before)) s ∷ []) L

-- the replies to the steps of a list, in order
unfoldable pub replies : Sizes → List Step → List (Result Reply Fault)
replies sizes L = gather (λ before s. reply_of sizes (good sizes before) s ∷ []) L

-- where words are kept, a read is answered with the word
abbrev pub with_word : List Step → Step → Reply → Reply
with_word A (Read t a) Readable = Value (word a A)
with_word A s reply = reply

-- the reply of whatever keeps words
abbrev pub word_reply_of : Sizes → List Step → Step → Result Reply Fault
word_reply_of sizes A s =
    unless_fault (fault_of sizes A s) (with_word A s (answer_of sizes A (A ++ s ∷ []) s))
