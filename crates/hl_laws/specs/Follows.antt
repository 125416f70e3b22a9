-- What each step makes of the quantities of the list before it: a part that makes the same of them, call by
-- call, is at its list.
use Rattle.std.specs.Prelude.{ℕ, ◌≡◌, ◌↔◌, ◌+◌, ◌==◌, Bool, true, false, ◌&&◌, ◌||◌, not, max, Option, Some, None, List, [], ◌∷◌, ◌++◌, filter, slice_set}
use Rattle.std.specs.List.{list_any}
use Rattle.hl_model.specs.declared.action.Waiting.{Waiting}
use Rattle.hl_model.specs.declared.step.Step.{Step}
use Rattle.hl_model.specs.declared.step.Step.TheVariants.{Acquire, Refresh, Release, Bump, Settle, Close, Bare, Take, Done, Raise, Shift, Allocate, FlushTake, FlushDone, CleanTake, CleanDone}
use Rattle.hl_model.specs.Sizes.{Sizes}
use Rattle.hl_model.specs.Epochs.{table_of, slot_epochs, is_bump, enters, leaves, current_epoch}
use Rattle.hl_model.specs.Actions.{stores, is_take, is_done, action_of, pending, taken, is_taken, action_at}
use Rattle.hl_model.specs.Offsets.{tail, place_of}
use Rattle.hl_model.specs.Settled.{settles, closes, safe_read_only, closed}
use Rattle.hl_model.specs.Pages.{Work, marks, next_page, flush_of, takes_to_flush, flushing, clean_of, takes_to_clean, cleaning, is_flushed, is_in_flight, is_freed, is_cleaning, next_to_flush, next_to_clean, flushed}
use Rattle.hl_model.specs.Snapshots.{six}
use Rattle.hl_model.specs.Replies.{fault_of, IsAccepted}

-- what each step makes of the table of a list: an acquire and a refresh set the slot's epoch to the current
-- one, a release ends it, a bump of any kind raises the current one, and no other step changes anything
pub record TablesMove (sizes : Sizes) (A : List Step) : Type 0 where
  pub acquire : (t : ℕ) → table_of sizes (A ++ Acquire t ∷ []) ≡ record (table_of sizes A) {
    epochs = slice_set (slot_epochs sizes.slots A) t (Some (current_epoch A));
  }
  pub refresh : (t : ℕ) → table_of sizes (A ++ Refresh t ∷ []) ≡ record (table_of sizes A) {
    epochs = slice_set (slot_epochs sizes.slots A) t (Some (current_epoch A));
  }
  pub release : (t : ℕ)
      → table_of sizes (A ++ Release t ∷ [])
      ≡ record (table_of sizes A) { epochs = slice_set (slot_epochs sizes.slots A) t None }
  pub bump : (tag : ℕ)
      → table_of sizes (A ++ Bump tag ∷ []) ≡ record (table_of sizes A) { current = current_epoch A + 1 }
  pub settle : table_of sizes (A ++ Settle ∷ []) ≡ record (table_of sizes A) { current = current_epoch A + 1 }
  pub close : table_of sizes (A ++ Close ∷ []) ≡ record (table_of sizes A) { current = current_epoch A + 1 }
  pub bare : table_of sizes (A ++ Bare ∷ []) ≡ record (table_of sizes A) { current = current_epoch A + 1 }
  pub others : (s : Step) → is_bump s ≡ false → ((t : ℕ) → enters t s ≡ false)
      → ((t : ℕ) → leaves t s ≡ false) → table_of sizes (A ++ s ∷ []) ≡ table_of sizes A

-- so does each step after every list
abbrev pub TablesFollow : Type 0
TablesFollow = (sizes : Sizes) (A : List Step) → TablesMove sizes A

-- what each step makes of the pending and the taken actions of a list
pub record ActionsMove (A : List Step) : Type 0 where
  -- a bump, a settle and a close store their action behind the pending ones
  pub stored : (s : Step) → stores s ≡ true
      → (pending (A ++ s ∷ []) ≡ pending A ++ action_of A s) × (taken (A ++ s ∷ []) ≡ taken A)
  -- a take moves the first pending action behind the taken ones
  pub took : (w : Waiting) (others : List Waiting) → pending A ≡ w ∷ others
      → (pending (A ++ Take ∷ []) ≡ others) × (taken (A ++ Take ∷ []) ≡ taken A ++ w ∷ [])
  -- a done removes the taken action of its ticket
  pub done : (c : ℕ)
      → (pending (A ++ Done c ∷ []) ≡ pending A)
      × (taken (A ++ Done c ∷ []) ≡ filter (λ w. not (c == w.ticket)) (taken A))
  -- no other step changes them
  pub others : (s : Step) → stores s ≡ false → is_take s ≡ false → is_done s ≡ false
      → (pending (A ++ s ∷ []) ≡ pending A) × (taken (A ++ s ∷ []) ≡ taken A)

-- so does each step after an accepted list
abbrev pub ActionsFollow : Type 0
ActionsFollow = (sizes : Sizes) (A : List Step) → IsAccepted sizes A → ActionsMove A

-- a step of a kind that moves an offset
abbrev pub moves_offsets : Step → Bool
moves_offsets (Raise x) = true
moves_offsets (Shift x) = true
moves_offsets (Allocate t n) = true
moves_offsets (Done ticket) = true
moves_offsets (FlushDone page ok) = true
moves_offsets _ = false

-- what each step makes of the six offsets of a list
pub record OffsetsMove (sizes : Sizes) (A : List Step) : Type 0 where
  -- an accepted raise puts the read-only offset where it says
  pub raise : (x : ℕ) → fault_of sizes A (Raise x) ≡ None
      → six sizes (A ++ Raise x ∷ []) ≡ record (six sizes A) { read_only = x }
  -- an accepted shift puts the head where it says
  pub shift : (x : ℕ) → fault_of sizes A (Shift x) ≡ None
      → six sizes (A ++ Shift x ∷ []) ≡ record (six sizes A) { head = x }
  -- an allocation moves the tail to its record's end
  pub allocate : (t n : ℕ)
      → six sizes (A ++ Allocate t n ∷ [])
      ≡ record (six sizes A) { tail = place_of sizes.page_size (tail sizes A) n + n }
  -- a done of a taken action raises an offset to what a settle or a close stored
  pub done : (c : ℕ) (w : Waiting) → is_taken c A ≡ true → action_at c A ≡ Some w
      → six sizes (A ++ Done c ∷ []) ≡ record (six sizes A) {
        safe_read_only = max (safe_read_only A) (settles w.kind);
        closed = max (closed A) (closes w.kind);
      }
  -- the end of a flush moves at most the flushed offset
  pub flush_done : (p : ℕ) (ok : Bool)
      → six sizes (A ++ FlushDone p ok ∷ [])
      ≡ record (six sizes A) { flushed = flushed sizes (A ++ FlushDone p ok ∷ []) }
  -- no other step changes them
  pub others : (s : Step) → moves_offsets s ≡ false → six sizes (A ++ s ∷ []) ≡ six sizes A

-- so does each step after an accepted list
abbrev pub OffsetsFollow : Type 0
OffsetsFollow = (sizes : Sizes) (A : List Step) → IsAccepted sizes A → OffsetsMove sizes A

-- what each step makes of a page q after a list
pub record PagesMove (sizes : Sizes) (A : List Step) : Type 0 where
  -- a flush take puts the page that it names in flight
  pub flush_take : (p q : ℕ) → next_to_flush sizes A ≡ Some p
      → is_in_flight sizes q (A ++ FlushTake ∷ []) ≡ (p == q || is_in_flight sizes q A)
  -- the end of page p's flush ends its flight, and flushes it if all went well
  pub flush_done : (p : ℕ) (ok : Bool) (q : ℕ)
      → (is_in_flight sizes q (A ++ FlushDone p ok ∷ []) ≡ (not (p == q) && is_in_flight sizes q A))
      × (is_flushed sizes q (A ++ FlushDone p ok ∷ []) ≡ ((p == q && ok) || is_flushed sizes q A))
  -- a clean take begins the cleaning of the page that it names
  pub clean_take : (p q : ℕ) → next_to_clean sizes A ≡ Some p
      → is_cleaning sizes q (A ++ CleanTake ∷ []) ≡ (p == q || is_cleaning sizes q A)
  -- the end of page p's cleaning frees it
  pub clean_done : (p q : ℕ)
      → (is_cleaning sizes q (A ++ CleanDone p ∷ []) ≡ (not (p == q) && is_cleaning sizes q A))
      × (is_freed sizes q (A ++ CleanDone p ∷ []) ≡ (p == q || is_freed sizes q A))
  -- no other step changes which pages are in flight, flushed, being cleaned or freed
  pub in_flight_stays : (s : Step) (q : ℕ) → takes_to_flush s ≡ false → flush_of s ≡ None
      → is_in_flight sizes q (A ++ s ∷ []) ≡ is_in_flight sizes q A
  pub flushed_stays : (s : Step) (q : ℕ) → flush_of s ≡ None
      → is_flushed sizes q (A ++ s ∷ []) ≡ is_flushed sizes q A
  pub cleaning_stays : (s : Step) (q : ℕ) → takes_to_clean s ≡ false → clean_of s ≡ None
      → is_cleaning sizes q (A ++ s ∷ []) ≡ is_cleaning sizes q A
  pub freed_stays : (s : Step) (q : ℕ) → clean_of s ≡ None
      → is_freed sizes q (A ++ s ∷ []) ≡ is_freed sizes q A

-- so does each step after every list
abbrev pub PagesFollow : Type 0
PagesFollow = (sizes : Sizes) (A : List Step) → PagesMove sizes A

-- the page is p
abbrev pub is_page : ℕ → Option ℕ → Bool
is_page p None = false
is_page p (Some q) = q == p

-- page p is out since some step of the list took it: no step after that one ends the work on p
pub record OutSince (work : Work) (p : ℕ) (A : List Step) : Type 0 where
  pub before : List Step
  pub taking : Step
  pub after : List Step
  pub whole : A ≡ before ++ taking ∷ after
  pub takes : work.takes taking ≡ true
  pub names : next_page work before (marks work before) ≡ Some p
  pub not_ended : list_any (λ s. is_page p (work.ends s)) after ≡ false

-- a page is in flight exactly where it is out since a flush take, and being cleaned exactly where it is out
-- since a clean take
abbrev pub OutSinceItsTake : Type 0
OutSinceItsTake = (sizes : Sizes) (A : List Step) (p : ℕ)
    → ((is_in_flight sizes p A ≡ true) ↔ OutSince (flushing sizes) p A)
    × ((is_cleaning sizes p A ≡ true) ↔ OutSince (cleaning sizes) p A)
