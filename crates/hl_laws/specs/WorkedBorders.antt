-- Worked examples at the borders of what is refused, written by hand.
use Rattle.std.specs.Prelude.{◌≡◌, ◌-◌, ◌^◌, true, Some, None, Ok, Err, [], ◌∷◌}
use Rattle.hl_model.specs.declared.fault.Fault.TheVariants.{NoSlot, Occupied, NotProtected, Stale, Empty, NotReady, NotTaken, NotAbove, AboveTail, NotPage, AboveFlushed, Size, Busy, SpaceSpent, Below, Beyond, NoneSealed, NotInFlight, NoneClosed, NotCleaning}
use Rattle.hl_model.specs.declared.frame.FrameState.TheVariants.{Opened, Flushed as AtFlushed, Free}
use Rattle.hl_model.specs.declared.step.Reply.TheVariants.{Entered, Left, Ticket, Taken, Settled, Raised, Shifted, At, Looked, Readable, Page, Flushed}
use Rattle.hl_model.specs.declared.step.Step.TheVariants.{Acquire, Refresh, Release, Settle, Take, Done, Raise, Shift, Allocate, Look, Write, Read, FlushTake, FlushDone, CleanTake, CleanDone}
use Rattle.hl_model.specs.Offsets.{place_of}
use Rattle.hl_model.specs.Replies.{size_fault}
use Rattle.hl_laws.specs.WorkedPages.{Makes, seeing, at_six}

-- nothing is there yet: each refusal of an empty log, then slots at their last and one past it
abbrev pub EmptyLog : Type 0
EmptyLog = Makes
    (Raise 0 ∷ Raise 1 ∷ Shift 0 ∷ Take ∷ Done 0 ∷ Done 1 ∷ FlushTake ∷ FlushDone 0 true ∷ CleanTake
    ∷ CleanDone 0 ∷ Refresh 1 ∷ Refresh 2 ∷ Release 2 ∷ Acquire 2 ∷ Acquire 1 ∷ Acquire 1 ∷ Read 1 0
    ∷ Write 1 0 5 ∷ Release 1 ∷ Release 1 ∷ [])
    (Err NotAbove ∷ Err AboveTail ∷ Err NotAbove ∷ Err Empty ∷ Err NotTaken ∷ Err NotTaken ∷ Err NoneSealed
    ∷ Err NotInFlight ∷ Err NoneClosed ∷ Err NotCleaning ∷ Err NotProtected ∷ Err NoSlot ∷ Err NoSlot
    ∷ Err NoSlot ∷ Ok (Entered 1 (seeing 0 0 0)) ∷ Err Occupied ∷ Err (Beyond 0) ∷ Err (Beyond 0) ∷ Ok Left
    ∷ Err NotProtected ∷ [])
    (at_six 0 0 0 0 0 0) ((Free, None) ∷ (Free, None) ∷ [])

-- at each border: a record of a whole page and of one word more, raises and looks at what is and beside it,
-- the words at both ends of a view, a page that ends one word above what is safe, a record that ends with its
-- page
abbrev pub AtBorders : Type 0
AtBorders = Makes
    (Acquire 1 ∷ Allocate 1 0 ∷ Allocate 1 5 ∷ Allocate 1 4 ∷ Allocate 1 3 ∷ Raise 8 ∷ Raise 7 ∷ Raise 7
    ∷ Look 1 7 0 ∷ Look 1 6 0 ∷ Look 1 7 0 ∷ Write 1 6 9 ∷ Write 1 7 9 ∷ Read 1 6 ∷ Read 1 7 ∷ Acquire 0
    ∷ Settle ∷ Refresh 0 ∷ Take ∷ Refresh 1 ∷ Done 1 ∷ Take ∷ Take ∷ Done 1 ∷ FlushTake ∷ FlushTake ∷ Shift 4
    ∷ FlushDone 1 true ∷ FlushDone 0 true ∷ Shift 6 ∷ Shift 8 ∷ Shift 4 ∷ Read 1 3 ∷ Allocate 1 1
    ∷ Allocate 1 1 ∷ [])
    (Ok (Entered 1 (seeing 0 0 0)) ∷ Err Size ∷ Err Size ∷ Ok (At 0) ∷ Ok (At 4) ∷ Err AboveTail
    ∷ Ok (Raised 7) ∷ Err NotAbove ∷ Ok (Looked (seeing 7 0 7)) ∷ Err Stale ∷ Ok (Looked (seeing 7 0 7))
    ∷ Err (Below 7) ∷ Err (Beyond 7) ∷ Ok Readable ∷ Err (Beyond 7) ∷ Ok (Entered 1 (seeing 7 0 7))
    ∷ Ok (Ticket 1) ∷ Ok (Entered 2 (seeing 7 0 7)) ∷ Err (NotReady 1 0) ∷ Ok (Entered 2 (seeing 7 0 7))
    ∷ Err NotTaken ∷ Ok (Taken 1) ∷ Err Empty ∷ Ok (Settled 7) ∷ Ok (Page 0) ∷ Err NoneSealed
    ∷ Err AboveFlushed ∷ Err NotInFlight ∷ Ok (Flushed 4) ∷ Err NotPage ∷ Err AboveFlushed ∷ Ok (Shifted 4)
    ∷ Ok Readable ∷ Ok (At 7) ∷ Err (Busy 2) ∷ [])
    (at_six 0 4 4 7 7 8) ((AtFlushed, Some 0) ∷ (Opened, Some 1) ∷ [])

-- the last address: one word fits there, two don't, and nothing fits behind it
pub record LastAddress : Type 0 where
  pub place_is : place_of 4 (2 ^ 48 - 1) 1 ≡ 2 ^ 48 - 1
  pub fits : size_fault 4 (2 ^ 48 - 1) 1 ≡ None
  pub too_long : size_fault 4 (2 ^ 48 - 1) 2 ≡ Some SpaceSpent
  pub spent : size_fault 4 (2 ^ 48) 1 ≡ Some SpaceSpent
