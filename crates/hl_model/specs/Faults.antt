-- The numbers of faults.
use Rattle.std.specs.Prelude.{ℕ}
use Rattle.hl_model.specs.declared.fault.Fault.{Fault}
use Rattle.hl_model.specs.declared.fault.Fault.TheVariants.{NoSlot, Occupied, NotProtected, Stale, DrainFull, EpochsSpent, Empty, NotReady, NotTaken, NotAbove, AboveTail, NotPage, AboveFlushed, Size, Busy, SpaceSpent, Below, Beyond, Evicted, NoneSealed, NotInFlight, NoneClosed, NotCleaning, NoJob, TouchesFull, Stranger, JournalFull, Device, OutOfMemory, BadLine, Stream, WindowFull}

-- the number by which a fault is known
abbrev pub number_of : Fault → ℕ
number_of NoSlot = 1
number_of Occupied = 2
number_of NotProtected = 3
number_of Stale = 4
number_of DrainFull = 5
number_of EpochsSpent = 6
number_of Empty = 7
number_of (NotReady front safe) = 8
number_of NotTaken = 9
number_of NotAbove = 10
number_of AboveTail = 11
number_of NotPage = 12
number_of AboveFlushed = 13
number_of Size = 14
number_of (Busy page) = 15
number_of SpaceSpent = 16
number_of (Below read_only) = 17
number_of (Beyond tail) = 18
number_of (Evicted head) = 19
number_of NoneSealed = 20
number_of NotInFlight = 21
number_of NoneClosed = 22
number_of NotCleaning = 23
number_of NoJob = 24
number_of TouchesFull = 25
number_of (Stranger stamp) = 26
number_of JournalFull = 27
number_of Device = 28
number_of OutOfMemory = 29
number_of (BadLine n) = 30
number_of Stream = 31
number_of WindowFull = 32
