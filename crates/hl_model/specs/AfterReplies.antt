-- What each step is answered after a base and the steps since, by the quantities alone, and which steps are
-- accepted.
use Rattle.std.specs.Prelude.{ℕ, ◌+◌, ◌-◌, ◌*◌, ◌/◌, ◌==◌, nat_le, nat_lt, ◌||◌, if◌then◌else◌, Option, Some, None, is_none, is_some, unwrap_or, Result, List, [], ◌∷◌, ◌++◌, length, map, find}
use Rattle.std.specs.List.{list_any, range_with_len}
use Rattle.hl_model.specs.declared.action.Kind.{Kind}
use Rattle.hl_model.specs.declared.action.Kind.TheVariants.{User, Settle as Settling, Close as Closing}
use Rattle.hl_model.specs.declared.fault.Fault.{Fault}
use Rattle.hl_model.specs.declared.fault.Fault.TheVariants.{NoSlot, Occupied, NotProtected, Stale, DrainFull, EpochsSpent, Empty, NotReady, NotTaken, Busy, Below, Beyond, Evicted, NoneSealed, NotInFlight, NoneClosed, NotCleaning, WindowFull}
use Rattle.hl_model.specs.declared.slot.Slot.{Slot}
use Rattle.hl_model.specs.declared.step.Reply.{Reply}
use Rattle.hl_model.specs.declared.step.Reply.TheVariants.{Entered, Left, Ticket, Bumped, Taken, Ran, Settled, Closed, Raised, Shifted, At, Looked, Written, Readable, Page, Flushed, Freed}
use Rattle.hl_model.specs.declared.step.Step.{Step}
use Rattle.hl_model.specs.declared.step.Step.TheVariants.{Acquire, Refresh, Release, Bump, Settle, Close, Bare, Take, Done, Raise, Shift, Allocate, Look, Write, Read, FlushTake, FlushDone, CleanTake, CleanDone}
use Rattle.hl_model.specs.declared.view.View.{View}
use Rattle.hl_model.specs.Lists.{gather}
use Rattle.hl_model.specs.Epochs.{epoch_window}
use Rattle.hl_model.specs.Actions.{first_ticket}
use Rattle.hl_model.specs.Offsets.{place_of}
use Rattle.hl_model.specs.Replies.{epoch_last, or_fault, raise_fault, shift_fault, size_fault, unless_page, kind_or_job_0, unless_fault}
use Rattle.hl_model.specs.Bases.{Base, slot_in, safe_in, freed_in, in_flight_in, cleaning_in, to_flush_in, to_clean_in}
use Rattle.hl_model.specs.AfterEpochs.{epoch_after}
use Rattle.hl_model.specs.AfterOffsets.{read_only_after, head_after, tail_after}
use Rattle.hl_model.specs.AfterActions.{waiting_after, taken_after, safe_read_only_after, closed_after}
use Rattle.hl_model.specs.AfterViews.{slot_after}
use Rattle.hl_model.specs.AfterPages.{flushed_after, held_after}

-- the base of a base and the steps since, together
unfoldable pub base_after : Base → List Step → Base
base_after b L = record {
  sizes = b.sizes;
  epoch = epoch_after b L;
  slots = map (λ t. slot_after b t L) (range_with_len 0 b.sizes.slots);
  waiting = waiting_after b L;
  taken = taken_after b L;
  six = record {
    closed = closed_after b L;
    head = head_after b L;
    flushed = flushed_after b L;
    safe_read_only = safe_read_only_after b L;
    read_only = read_only_after b L;
    tail = tail_after b L;
  };
  frames = map (held_after b L) (range_with_len 0 b.sizes.frames);
}

-- the fault of a step that wants slot t unprotected
abbrev pub acquire_fault_at : Base → ℕ → Option Fault
acquire_fault_at b t =
    if nat_le b.sizes.slots t then Some NoSlot else if is_some (slot_in b t) then Some Occupied else None

-- the fault of a step that wants a slot protected, told what it has, and then one that its view gives
abbrev pub seen_fault : (View → Option Fault) → Option Slot → Option Fault
seen_fault fault None = Some NotProtected
seen_fault fault (Some slot) = fault slot.view

-- the same of slot t
abbrev pub view_fault_at : Base → ℕ → (View → Option Fault) → Option Fault
view_fault_at b t fault = if nat_le b.sizes.slots t then Some NoSlot else seen_fault fault (slot_in b t)

-- the fault of a bare bump
abbrev pub bare_fault_at : Base → Option Fault
bare_fault_at b =
    if b.epoch == epoch_last then Some EpochsSpent
    else if b.epoch - 1 - safe_in b == epoch_window then Some WindowFull
    else None

-- the fault of a bump that stores an action: the pending and the taken ones fill the drain list
abbrev pub bump_fault_at : Base → Option Fault
bump_fault_at b =
    if length b.waiting + length b.taken == b.sizes.drain then Some DrainFull else bare_fault_at b

-- the fault of a take
abbrev pub take_fault_at : Base → Option Fault
take_fault_at b =
    if length b.waiting == 0 then Some Empty
    else if nat_lt (safe_in b) (first_ticket b.waiting)
    then Some (NotReady (first_ticket b.waiting) (safe_in b))
    else None

-- the fault of a record's page: it isn't entered and may not be
abbrev pub page_fault_at : Base → ℕ → Option Fault
page_fault_at b q =
    if nat_lt (q * b.sizes.page_size) b.six.tail || nat_lt q b.sizes.frames || freed_in b (q - b.sizes.frames)
    then None
    else Some (Busy q)

-- the fault of an allocation of n words
abbrev pub allocate_fault_at : Base → ℕ → Option Fault
allocate_fault_at b n =
    or_fault (size_fault b.sizes.page_size b.six.tail n)
    (page_fault_at b (place_of b.sizes.page_size b.six.tail n / b.sizes.page_size))

-- the fault of a look at these offsets, told the view
abbrev pub look_fault_of : ℕ → ℕ → View → Option Fault
look_fault_of read_only head view =
    if nat_lt read_only view.read_only || nat_lt head view.head then Some Stale else None

-- the fault of a write at address a, told the view
abbrev pub write_fault_of : ℕ → View → Option Fault
write_fault_of a view =
    if nat_lt a view.read_only then Some (Below view.read_only)
    else if nat_le view.tail a then Some (Beyond view.tail)
    else None

-- the fault of a read at address a, told the view
abbrev pub read_fault_of : ℕ → View → Option Fault
read_fault_of a view =
    if nat_lt a view.head then Some (Evicted view.head)
    else if nat_le view.tail a then Some (Beyond view.tail)
    else None

-- the fault that a step meets at a base, the first that holds
abbrev pub fault_at : Base → Step → Option Fault
fault_at b (Acquire t) = acquire_fault_at b t
fault_at b (Refresh t) = view_fault_at b t (λ view. None)
fault_at b (Release t) = view_fault_at b t (λ view. None)
fault_at b (Bump tag) = bump_fault_at b
fault_at b Settle = bump_fault_at b
fault_at b Close = bump_fault_at b
fault_at b Bare = bare_fault_at b
fault_at b Take = take_fault_at b
fault_at b (Done ticket) = if list_any (λ w. w.ticket == ticket) b.taken then None else Some NotTaken
fault_at b (Raise x) = raise_fault b.six.read_only b.six.tail x
fault_at b (Shift x) = shift_fault b.sizes.page_size b.six.head b.six.flushed x
fault_at b (Allocate t n) = view_fault_at b t (λ view. allocate_fault_at b n)
fault_at b (Look t read_only head) = view_fault_at b t (look_fault_of read_only head)
fault_at b (Write t a v) = view_fault_at b t (write_fault_of a)
fault_at b (Read t a) = view_fault_at b t (read_fault_of a)
fault_at b FlushTake = unless_page NoneSealed (to_flush_in b)
fault_at b (FlushDone page ok) = if in_flight_in b page then None else Some NotInFlight
fault_at b CleanTake = unless_page NoneClosed (to_clean_in b)
fault_at b (CleanDone page) = if cleaning_in b page then None else Some NotCleaning

-- the answer to a refresh or an acquire, told what the slot has then
abbrev pub entered_at : Option Slot → Reply
entered_at None = Left
entered_at (Some slot) = Entered slot.epoch slot.view

-- the answer to a look, told what the slot has then
abbrev pub looked_at : Option Slot → Reply
looked_at None = Left
looked_at (Some slot) = Looked slot.view

-- the answer to a done, by the action's kind
abbrev pub done_answer_at : Base → Kind → Reply
done_answer_at b (User tag) = Ran tag
done_answer_at b (Settling x) = Settled b.six.safe_read_only
done_answer_at b (Closing x) = Closed b.six.closed

-- the answer to an accepted step, where b is the base before it and c the base with it; what would be said of
-- a slot that isn't protected, of a ticket that isn't taken or of no page, no accepted step meets
abbrev pub answer_at : Base → Base → Step → Reply
answer_at b c (Acquire t) = entered_at (slot_in c t)
answer_at b c (Refresh t) = entered_at (slot_in c t)
answer_at b c (Release t) = Left
answer_at b c (Bump tag) = Ticket b.epoch
answer_at b c Settle = Ticket b.epoch
answer_at b c Close = Ticket b.epoch
answer_at b c Bare = Bumped b.epoch
answer_at b c Take = Taken (first_ticket b.waiting)
answer_at b c (Done ticket) = done_answer_at c (kind_or_job_0 (find (λ w. w.ticket == ticket) b.taken))
answer_at b c (Raise x) = Raised c.six.read_only
answer_at b c (Shift x) = Shifted c.six.head
answer_at b c (Allocate t n) = At (place_of b.sizes.page_size b.six.tail n)
answer_at b c (Look t read_only head) = looked_at (slot_in c t)
answer_at b c (Write t a v) = Written
answer_at b c (Read t a) = Readable
answer_at b c FlushTake = Page (unwrap_or (to_flush_in b) 0)
answer_at b c (FlushDone page ok) = Flushed c.six.flushed
answer_at b c CleanTake = Page (unwrap_or (to_clean_in b) 0)
answer_at b c (CleanDone page) = Freed page

-- the fault that a step meets after a base and the steps since
abbrev pub fault_after : Base → List Step → Step → Option Fault
fault_after b L s = fault_at (base_after b L) s

-- the reply to a step after a base and the steps since
abbrev pub reply_after : Base → List Step → Step → Result Reply Fault
reply_after b L s =
    unless_fault (fault_after b L s) (answer_at (base_after b L) (base_after b (L ++ s ∷ [])) s)

-- the steps since the base with one more, where it is accepted
abbrev pub extended_from : Base → List Step → Step → List Step
extended_from b L s = if is_none (fault_after b L s) then L ++ s ∷ [] else L

-- K with the steps of L that are accepted, each after those before it
unfoldable pub good_past : Base → List Step → List Step → List Step
good_past b K [] = K
good_past b K (s ∷ L) = good_past b (extended_from b K s) L

-- the accepted steps of a list that goes on from a base
unfoldable pub good_from : Base → List Step → List Step
good_from b L = good_past b [] L

-- the replies to the steps of a list that goes on from a base, in order
unfoldable pub replies_from : Base → List Step → List (Result Reply Fault)
replies_from b L = gather (λ before s. reply_after b (good_from b before) s ∷ []) L
