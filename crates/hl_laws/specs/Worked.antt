-- Worked examples: lists of steps, and what the definitions make of them, written by hand.
use Rattle.std.specs.Prelude.{ℕ, ◌≡◌, Result, Ok, Err, List, [], ◌∷◌}
use Rattle.hl_model.specs.declared.action.Kind.TheVariants.{User}
use Rattle.hl_model.specs.declared.action.Waiting.{Waiting}
use Rattle.hl_model.specs.declared.fault.Fault.{Fault}
use Rattle.hl_model.specs.declared.fault.Fault.TheVariants.{NoSlot, Occupied, NotProtected, DrainFull, Empty, NotReady, NotTaken}
use Rattle.hl_model.specs.declared.step.Reply.{Reply}
use Rattle.hl_model.specs.declared.step.Reply.TheVariants.{Entered, Left, Ticket, Bumped, Taken, Ran}
use Rattle.hl_model.specs.declared.step.Step.{Step}
use Rattle.hl_model.specs.declared.step.Step.TheVariants.{Acquire, Refresh, Release, Bump, Bare, Take, Done}
use Rattle.hl_model.specs.declared.view.View.{View}
use Rattle.hl_model.specs.Sizes.{Sizes}
use Rattle.hl_model.specs.Epochs.{current_epoch, safe_epoch}
use Rattle.hl_model.specs.Actions.{pending, taken}
use Rattle.hl_model.specs.Replies.{good, replies}

-- pages of 4 words, 2 frames, 2 slots, 2 places in the drain list
abbrev pub small : Sizes
small = record { page_size = 4; frames = 2; slots = 2; drain = 2 }

-- the view of a log where nothing was allocated
abbrev pub at_start : View
at_start = record { read_only = 0; head = 0; tail = 0 }

-- the job of this tag, stored under this ticket
abbrev pub job : ℕ → ℕ → Waiting
job c tag = record { ticket = c; kind = User tag }

-- what a list gives: its replies, and the current epoch, the safe one and both parts of the drain list after
-- it
pub record Gives (sizes : Sizes) (L : List Step) (told : List (Result Reply Fault)) (epoch safe : ℕ)
    (waiting running : List Waiting) : Type 0 where
  pub told_is : replies sizes L ≡ told
  pub epoch_is : current_epoch (good sizes L) ≡ epoch
  pub safe_is : safe_epoch sizes.slots (good sizes L) ≡ safe
  pub waiting_is : pending (good sizes L) ≡ waiting
  pub running_is : taken (good sizes L) ≡ running

-- an action waits until the one thread that was protected at its bump refreshed
abbrev pub FirstAction : Type 0
FirstAction = Gives small
    (Acquire 0 ∷ Bump 7 ∷ Take ∷ Refresh 0 ∷ Take ∷ Done 1 ∷ Take ∷ [])
    (Ok (Entered 1 at_start) ∷ Ok (Ticket 1) ∷ Err (NotReady 1 0) ∷ Ok (Entered 2 at_start) ∷ Ok (Taken 1)
    ∷ Ok (Ran 7) ∷ Err Empty ∷ [])
    2 1 [] []

-- with nobody protected an action may be taken at once
abbrev pub NobodyProtected : Type 0
NobodyProtected = Gives small
    (Bump 3 ∷ Take ∷ Done 1 ∷ Release 0 ∷ [])
    (Ok (Ticket 1) ∷ Ok (Taken 1) ∷ Ok (Ran 3) ∷ Err NotProtected ∷ [])
    2 1 [] []

-- a full drain list refuses a bump, and the epoch stays; a place is free once an action is done
abbrev pub FullDrainList : Type 0
FullDrainList = Gives small
    (Acquire 0 ∷ Bump 1 ∷ Bump 2 ∷ Bump 3 ∷ Refresh 0 ∷ Take ∷ Bump 3 ∷ Done 1 ∷ Bump 3 ∷ Take ∷ Done 2 ∷ [])
    (Ok (Entered 1 at_start) ∷ Ok (Ticket 1) ∷ Ok (Ticket 2) ∷ Err DrainFull ∷ Ok (Entered 3 at_start)
    ∷ Ok (Taken 1) ∷ Err DrainFull ∷ Ok (Ran 1) ∷ Ok (Ticket 3) ∷ Ok (Taken 2) ∷ Ok (Ran 2) ∷ [])
    4 2 (job 3 3 ∷ []) []

-- two threads: slots that there are not, refusals, an action that waits for the slower thread, dones of
-- tickets that are not taken
abbrev pub TwoThreads : Type 0
TwoThreads = Gives small
    (Acquire 0 ∷ Acquire 1 ∷ Acquire 0 ∷ Acquire 2 ∷ Refresh 2 ∷ Release 2 ∷ Bump 9 ∷ Bump 8 ∷ Done 1
    ∷ Refresh 0 ∷ Take ∷ Release 1 ∷ Refresh 1 ∷ Take ∷ Take ∷ Done 2 ∷ Done 0 ∷ Done 2 ∷ Done 3
    ∷ Acquire 1 ∷ [])
    (Ok (Entered 1 at_start) ∷ Ok (Entered 1 at_start) ∷ Err Occupied ∷ Err NoSlot ∷ Err NoSlot ∷ Err NoSlot
    ∷ Ok (Ticket 1) ∷ Ok (Ticket 2) ∷ Err NotTaken ∷ Ok (Entered 3 at_start) ∷ Err (NotReady 1 0) ∷ Ok Left
    ∷ Err NotProtected ∷ Ok (Taken 1) ∷ Ok (Taken 2) ∷ Ok (Ran 8) ∷ Err NotTaken ∷ Err NotTaken ∷ Err NotTaken
    ∷ Ok (Entered 3 at_start) ∷ [])
    3 2 [] (job 1 9 ∷ [])

-- actions wait in the order of their bumps
abbrev pub BothWait : Type 0
BothWait = Gives small
    (Acquire 1 ∷ Bump 9 ∷ Bump 8 ∷ [])
    (Ok (Entered 1 at_start) ∷ Ok (Ticket 1) ∷ Ok (Ticket 2) ∷ [])
    3 0 (job 1 9 ∷ job 2 8 ∷ []) []

-- bare bumps raise the epoch and take no place: tickets have gaps
abbrev pub BareBumps : Type 0
BareBumps = Gives (record small { drain = 1 })
    (Acquire 0 ∷ Bare ∷ Bump 5 ∷ Bare ∷ Bump 6 ∷ Take ∷ Refresh 0 ∷ Take ∷ Done 1 ∷ Done 2 ∷ Bump 6
    ∷ Take ∷ [])
    (Ok (Entered 1 at_start) ∷ Ok (Bumped 1) ∷ Ok (Ticket 2) ∷ Ok (Bumped 3) ∷ Err DrainFull
    ∷ Err (NotReady 2 0) ∷ Ok (Entered 4 at_start) ∷ Ok (Taken 2) ∷ Err NotTaken ∷ Ok (Ran 5)
    ∷ Ok (Ticket 4) ∷ Err (NotReady 4 3) ∷ [])
    5 3 (job 4 6 ∷ []) []

-- tickets run ahead of the takes by several bare bumps, and dones come out of order
abbrev pub TicketsRunAhead : Type 0
TicketsRunAhead = Gives (record small { drain = 3 })
    (Bare ∷ Bare ∷ Bare ∷ Bump 5 ∷ Bare ∷ Bump 6 ∷ Bare ∷ Bump 7 ∷ Take ∷ Take ∷ Done 2 ∷ Done 6 ∷ Take
    ∷ Done 6 ∷ Done 4 ∷ [])
    (Ok (Bumped 1) ∷ Ok (Bumped 2) ∷ Ok (Bumped 3) ∷ Ok (Ticket 4) ∷ Ok (Bumped 5) ∷ Ok (Ticket 6)
    ∷ Ok (Bumped 7) ∷ Ok (Ticket 8) ∷ Ok (Taken 4) ∷ Ok (Taken 6) ∷ Err NotTaken ∷ Ok (Ran 6) ∷ Ok (Taken 8)
    ∷ Err NotTaken ∷ Ok (Ran 5) ∷ [])
    9 8 [] (job 8 7 ∷ [])
