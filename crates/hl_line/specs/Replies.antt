-- The bytes of a reply's line, without its LF.
use Rattle.std.specs.Prelude.{ℕ, List, [], ◌∷◌, ◌++◌, codes}
use Rattle.hl_model.specs.declared.step.Reply.{Reply}
use Rattle.hl_model.specs.declared.step.Reply.TheVariants.{Entered, Left, Ticket, Bumped, Taken, Ran, Answer, Settled, Closed, Raised, Shifted, At, Looked, Written, Readable, Value, Page, Flushed, Freed}
use Rattle.hl_model.specs.declared.fault.Fault.{Fault}
use Rattle.hl_model.specs.declared.fault.Fault.TheVariants.{NoSlot, Occupied, NotProtected, Stale, DrainFull, EpochsSpent, Empty, NotReady, NotTaken, NotAbove, AboveTail, NotPage, AboveFlushed, Size, Busy, SpaceSpent, Below, Beyond, Evicted, NoneSealed, NotInFlight, NoneClosed, NotCleaning, NoJob, TouchesFull, Stranger, JournalFull, Device, OutOfMemory, BadLine, Stream, WindowFull}
use Rattle.hl_model.specs.Faults.{number_of}
use Rattle.hl_line.specs.Lines.{worded}

-- the answer to an accepted step; a view is its read-only offset, its head and its tail
abbrev pub reply_text : Reply → List ℕ
reply_text (Entered epoch view) =
    worded (codes "epoch") (epoch ∷ [])
    ++ worded (codes " view") (view.read_only ∷ view.head ∷ view.tail ∷ [])
reply_text Left = worded (codes "left") []
reply_text (Ticket ticket) = worded (codes "ticket") (ticket ∷ [])
reply_text (Bumped epoch) = worded (codes "bumped") (epoch ∷ [])
reply_text (Taken ticket) = worded (codes "taken") (ticket ∷ [])
reply_text (Ran tag) = worded (codes "ran") (tag ∷ [])
reply_text (Answer answer) = worded (codes "answer") (answer ∷ [])
reply_text (Settled address) = worded (codes "safe_read_only") (address ∷ [])
reply_text (Closed address) = worded (codes "closed") (address ∷ [])
reply_text (Raised address) = worded (codes "read_only") (address ∷ [])
reply_text (Shifted address) = worded (codes "head") (address ∷ [])
reply_text (At address) = worded (codes "at") (address ∷ [])
reply_text (Looked view) = worded (codes "view") (view.read_only ∷ view.head ∷ view.tail ∷ [])
reply_text Written = worded (codes "written") []
reply_text Readable = worded (codes "readable") []
reply_text (Value word) = worded (codes "value") (word ∷ [])
reply_text (Page page) = worded (codes "page") (page ∷ [])
reply_text (Flushed address) = worded (codes "flushed") (address ∷ [])
reply_text (Freed page) = worded (codes "freed") (page ∷ [])

-- the name of a fault
abbrev pub name_of : Fault → List ℕ
name_of NoSlot = codes "NoSlot"
name_of Occupied = codes "Occupied"
name_of NotProtected = codes "NotProtected"
name_of Stale = codes "Stale"
name_of DrainFull = codes "DrainFull"
name_of EpochsSpent = codes "EpochsSpent"
name_of Empty = codes "Empty"
name_of (NotReady front safe) = codes "NotReady"
name_of NotTaken = codes "NotTaken"
name_of NotAbove = codes "NotAbove"
name_of AboveTail = codes "AboveTail"
name_of NotPage = codes "NotPage"
name_of AboveFlushed = codes "AboveFlushed"
name_of Size = codes "Size"
name_of (Busy page) = codes "Busy"
name_of SpaceSpent = codes "SpaceSpent"
name_of (Below read_only) = codes "Below"
name_of (Beyond tail) = codes "Beyond"
name_of (Evicted head) = codes "Evicted"
name_of NoneSealed = codes "NoneSealed"
name_of NotInFlight = codes "NotInFlight"
name_of NoneClosed = codes "NoneClosed"
name_of NotCleaning = codes "NotCleaning"
name_of NoJob = codes "NoJob"
name_of TouchesFull = codes "TouchesFull"
name_of (Stranger stamp) = codes "Stranger"
name_of JournalFull = codes "JournalFull"
name_of Device = codes "Device"
name_of OutOfMemory = codes "OutOfMemory"
name_of (BadLine n) = codes "BadLine"
name_of Stream = codes "Stream"
name_of WindowFull = codes "WindowFull"

-- the fields of a fault, each by its name and its number
abbrev pub fields_of : Fault → List ℕ
fields_of (NotReady front safe) = worded (codes " front") (front ∷ []) ++ worded (codes " safe") (safe ∷ [])
fields_of (Busy page) = worded (codes " page") (page ∷ [])
fields_of (Below read_only) = worded (codes " read_only") (read_only ∷ [])
fields_of (Beyond tail) = worded (codes " tail") (tail ∷ [])
fields_of (Evicted head) = worded (codes " head") (head ∷ [])
fields_of (Stranger stamp) = worded (codes " stamp") (stamp ∷ [])
fields_of (BadLine n) = worded (codes " n") (n ∷ [])
fields_of _ = []

-- the answer to a refused line
abbrev pub fault_text : Fault → List ℕ
fault_text fault = worded (codes "fault") (number_of fault ∷ []) ++ (32 ∷ name_of fault) ++ fields_of fault
