-- Worked examples of offsets, views, pages and words: lists of steps, and what the definitions make of them,
-- written by hand.
use Rattle.std.specs.Prelude.{ℕ, ◌≡◌, true, false, Option, Some, None, Result, Ok, Err, List, [], ◌∷◌, ◌++◌, map}
use Rattle.std.specs.List.{range_with_len}
use Rattle.hl_model.specs.declared.fault.Fault.{Fault}
use Rattle.hl_model.specs.declared.fault.Fault.TheVariants.{Stale, NotReady, NotTaken, NotAbove, AboveTail, NotPage, AboveFlushed, Size, Busy, Below, Beyond, Evicted, NoneSealed, NotInFlight, NoneClosed, NotCleaning}
use Rattle.hl_model.specs.declared.frame.FrameState.{FrameState}
use Rattle.hl_model.specs.declared.frame.FrameState.TheVariants.{Opened, Sealed, Flushed as AtFlushed, Free}
use Rattle.hl_model.specs.declared.step.Reply.{Reply}
use Rattle.hl_model.specs.declared.step.Reply.TheVariants.{Entered, Left, Ticket, Taken, Settled, Closed, Raised, Shifted, At, Looked, Written, Readable, Page, Flushed, Freed}
use Rattle.hl_model.specs.declared.step.Step.{Step}
use Rattle.hl_model.specs.declared.step.Step.TheVariants.{Acquire, Refresh, Release, Settle, Close, Take, Done, Raise, Shift, Allocate, Look, Write, Read, FlushTake, FlushDone, CleanTake, CleanDone}
use Rattle.hl_model.specs.declared.view.View.{View}
use Rattle.hl_model.specs.declared.view.Six.{Six}
use Rattle.hl_model.specs.Sizes.{Sizes}
use Rattle.hl_model.specs.Frames.{frame_of}
use Rattle.hl_model.specs.Snapshots.{six}
use Rattle.hl_model.specs.Words.{page_words}
use Rattle.hl_model.specs.Replies.{good, replies}

-- pages of 4 words, 2 frames, 2 slots, 4 places in the drain list
abbrev pub roomy : Sizes
roomy = record { page_size = 4; frames = 2; slots = 2; drain = 4 }

-- a view: its read-only offset, its head and its tail
abbrev pub seeing : ℕ → ℕ → ℕ → View
seeing r h t = record { read_only = r; head = h; tail = t }

-- six offsets: closed, head, flushed, safe read-only, read-only, tail
abbrev pub at_six : ℕ → ℕ → ℕ → ℕ → ℕ → ℕ → Six
at_six c h f o r t = record { closed = c; head = h; flushed = f; safe_read_only = o; read_only = r; tail = t }

-- what a list gives in a roomy log: its replies, and the six offsets and both frames after it
pub record Makes (L : List Step) (told : List (Result Reply Fault)) (offsets : Six)
    (frames : List (FrameState × Option ℕ)) : Type 0 where
  pub told_is : replies roomy L ≡ told
  pub offsets_are : six roomy (good roomy L) ≡ offsets
  pub frames_are : map (λ f. frame_of roomy f (good roomy L)) (range_with_len 0 2) ≡ frames

-- the fuzzy region: a thread writes below a read-only offset that it hasn't seen, until every thread has
-- moved on
abbrev pub FuzzyRegion : Type 0
FuzzyRegion = Makes
    (Acquire 0 ∷ Allocate 0 4 ∷ Raise 4 ∷ Acquire 1 ∷ Settle ∷ Write 0 1 99 ∷ Write 1 1 5 ∷ Refresh 1 ∷ Take
    ∷ Refresh 0 ∷ Take ∷ Write 0 1 7 ∷ Done 1 ∷ [])
    (Ok (Entered 1 (seeing 0 0 0)) ∷ Ok (At 0) ∷ Ok (Raised 4) ∷ Ok (Entered 1 (seeing 4 0 4)) ∷ Ok (Ticket 1)
    ∷ Ok Written ∷ Err (Below 4) ∷ Ok (Entered 2 (seeing 4 0 4)) ∷ Err (NotReady 1 0)
    ∷ Ok (Entered 2 (seeing 4 0 4)) ∷ Ok (Taken 1) ∷ Err (Below 4) ∷ Ok (Settled 4) ∷ [])
    (at_six 0 0 0 4 4 4) ((Sealed, Some 0) ∷ (Free, None) ∷ [])

-- dones swapped: the safe read-only offset never falls
abbrev pub SwappedDones : Type 0
SwappedDones = Makes
    (Acquire 0 ∷ Allocate 0 4 ∷ Allocate 0 4 ∷ Raise 4 ∷ Settle ∷ Raise 8 ∷ Settle ∷ Release 0 ∷ Take ∷ Take
    ∷ Done 2 ∷ Done 1 ∷ Done 1 ∷ [])
    (Ok (Entered 1 (seeing 0 0 0)) ∷ Ok (At 0) ∷ Ok (At 4) ∷ Ok (Raised 4) ∷ Ok (Ticket 1) ∷ Ok (Raised 8)
    ∷ Ok (Ticket 2) ∷ Ok Left ∷ Ok (Taken 1) ∷ Ok (Taken 2) ∷ Ok (Settled 8) ∷ Ok (Settled 8)
    ∷ Err NotTaken ∷ [])
    (at_six 0 0 0 8 8 8) ((Sealed, Some 0) ∷ (Sealed, Some 1) ∷ [])

-- looks: a view rises with them, and a refresh brings it back to what is
abbrev pub Looks : Type 0
Looks = Makes
    (Acquire 0 ∷ Allocate 0 4 ∷ Raise 4 ∷ Look 0 4 0 ∷ Write 0 1 1 ∷ Look 0 2 0 ∷ Look 0 900 0
    ∷ Refresh 0 ∷ [])
    (Ok (Entered 1 (seeing 0 0 0)) ∷ Ok (At 0) ∷ Ok (Raised 4) ∷ Ok (Looked (seeing 4 0 4)) ∷ Err (Below 4)
    ∷ Err Stale ∷ Ok (Looked (seeing 900 0 4)) ∷ Ok (Entered 1 (seeing 4 0 4)) ∷ [])
    (at_six 0 0 0 0 4 4) ((Opened, Some 0) ∷ (Free, None) ∷ [])

-- a record lies on one page: a word is skipped
abbrev pub SkippedWord : Type 0
SkippedWord = Makes
    (Acquire 0 ∷ Allocate 0 3 ∷ Allocate 0 2 ∷ Allocate 0 0 ∷ Allocate 0 5 ∷ Write 0 3 8 ∷ Write 0 6 8 ∷ [])
    (Ok (Entered 1 (seeing 0 0 0)) ∷ Ok (At 0) ∷ Ok (At 4) ∷ Err Size ∷ Err Size ∷ Ok Written
    ∷ Err (Beyond 6) ∷ [])
    (at_six 0 0 0 0 0 6) ((Opened, Some 0) ∷ (Opened, Some 1) ∷ [])

-- raises and shifts that are refused
abbrev pub RaisesAndShifts : Type 0
RaisesAndShifts = Makes
    (Acquire 0 ∷ Allocate 0 4 ∷ Raise 0 ∷ Raise 5 ∷ Raise 4 ∷ Raise 4 ∷ Shift 0 ∷ Shift 3 ∷ Shift 4 ∷ [])
    (Ok (Entered 1 (seeing 0 0 0)) ∷ Ok (At 0) ∷ Err NotAbove ∷ Err AboveTail ∷ Ok (Raised 4) ∷ Err NotAbove
    ∷ Err NotAbove ∷ Err NotPage ∷ Err AboveFlushed ∷ [])
    (at_six 0 0 0 0 4 4) ((Opened, Some 0) ∷ (Free, None) ∷ [])

-- two pages of which both are sealed
abbrev pub two_sealed : List Step
two_sealed = Acquire 0 ∷ Allocate 0 4 ∷ Allocate 0 4 ∷ Raise 8 ∷ Settle ∷ Refresh 0 ∷ Take ∷ Done 1 ∷ []

abbrev pub two_sealed_told : List (Result Reply Fault)
two_sealed_told =
    Ok (Entered 1 (seeing 0 0 0)) ∷ Ok (At 0) ∷ Ok (At 4) ∷ Ok (Raised 8) ∷ Ok (Ticket 1)
    ∷ Ok (Entered 2 (seeing 8 0 8)) ∷ Ok (Taken 1) ∷ Ok (Settled 8) ∷ []

-- flushes acknowledged out of order: the flushed offset is the end of the longest run
abbrev pub OutOfOrderFlush : Type 0
OutOfOrderFlush = Makes
    (two_sealed ++ FlushTake ∷ FlushTake ∷ FlushTake ∷ FlushDone 1 true ∷ Shift 4 ∷ FlushDone 0 true
    ∷ Shift 8 ∷ [])
    (two_sealed_told ++ Ok (Page 0) ∷ Ok (Page 1) ∷ Err NoneSealed ∷ Ok (Flushed 0) ∷ Err AboveFlushed
    ∷ Ok (Flushed 8) ∷ Ok (Shifted 8) ∷ [])
    (at_six 0 8 8 8 8 8) ((AtFlushed, Some 0) ∷ (AtFlushed, Some 1) ∷ [])

-- a failed flush: the page may be taken again
abbrev pub FailedFlush : Type 0
FailedFlush = Makes
    (two_sealed ++ FlushTake ∷ FlushDone 0 false ∷ FlushTake ∷ FlushDone 0 true ∷ FlushDone 0 true ∷ [])
    (two_sealed_told ++ Ok (Page 0) ∷ Ok (Flushed 0) ∷ Ok (Page 0) ∷ Ok (Flushed 4) ∷ Err NotInFlight ∷ [])
    (at_six 0 0 4 8 8 8) ((AtFlushed, Some 0) ∷ (Sealed, Some 1) ∷ [])

-- a stale reader: a closed page's frame is not free before it is cleaned
abbrev pub StaleReader : Type 0
StaleReader = Makes
    (Acquire 0 ∷ Allocate 0 4 ∷ Allocate 0 4 ∷ Acquire 1 ∷ Allocate 0 1 ∷ Raise 8 ∷ Settle ∷ Refresh 0
    ∷ Refresh 1 ∷ Take ∷ Done 1 ∷ FlushTake ∷ FlushDone 0 true ∷ Shift 4 ∷ Close ∷ Read 1 0 ∷ Refresh 0 ∷ Take
    ∷ Allocate 0 1 ∷ Refresh 1 ∷ Take ∷ Done 2 ∷ Read 1 0 ∷ Allocate 0 1 ∷ CleanTake ∷ CleanDone 0
    ∷ CleanDone 0 ∷ CleanTake ∷ Allocate 0 1 ∷ [])
    (Ok (Entered 1 (seeing 0 0 0)) ∷ Ok (At 0) ∷ Ok (At 4) ∷ Ok (Entered 1 (seeing 0 0 8)) ∷ Err (Busy 2)
    ∷ Ok (Raised 8) ∷ Ok (Ticket 1) ∷ Ok (Entered 2 (seeing 8 0 8)) ∷ Ok (Entered 2 (seeing 8 0 8))
    ∷ Ok (Taken 1) ∷ Ok (Settled 8) ∷ Ok (Page 0) ∷ Ok (Flushed 4) ∷ Ok (Shifted 4) ∷ Ok (Ticket 2)
    ∷ Ok Readable ∷ Ok (Entered 3 (seeing 8 4 8)) ∷ Err (NotReady 2 1) ∷ Err (Busy 2)
    ∷ Ok (Entered 3 (seeing 8 4 8)) ∷ Ok (Taken 2) ∷ Ok (Closed 4) ∷ Err (Evicted 4) ∷ Err (Busy 2)
    ∷ Ok (Page 0) ∷ Ok (Freed 0) ∷ Err NotCleaning ∷ Err NoneClosed ∷ Ok (At 8) ∷ [])
    (at_six 4 4 4 8 8 9) ((Opened, Some 2) ∷ (Sealed, Some 1) ∷ [])

-- words: the last value written, at each address of a page
abbrev pub WordsOfAPage : Type 0
WordsOfAPage =
    page_words roomy 0
    (good roomy
    (Acquire 0 ∷ Allocate 0 4 ∷ Write 0 0 1 ∷ Write 0 3 258 ∷ Write 0 0 11 ∷ Write 0 4 9 ∷ []))
    ≡ 11 ∷ 0 ∷ 0 ∷ 258 ∷ []
