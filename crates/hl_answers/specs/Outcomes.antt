-- Replies as numbers.
use Rattle.std.specs.Prelude.{ℕ, Option, Some, None, option_map, unwrap_or, Result, Ok, Err, List, [], ◌∷◌, length, slice_get, replicate}
use Rattle.hl_model.specs.declared.action.Kind.{Kind}
use Rattle.hl_model.specs.declared.action.Kind.TheVariants.{User, Settle as Settling, Close as Closing}
use Rattle.hl_model.specs.declared.action.Waiting.{Waiting}
use Rattle.hl_model.specs.declared.fault.Fault.{Fault}
use Rattle.hl_model.specs.declared.fault.Fault.TheVariants.{NotReady, Busy, Below, Beyond, Evicted, Stranger, BadLine}
use Rattle.hl_model.specs.declared.action.Tag.{Tag}
use Rattle.hl_model.specs.declared.frame.FrameState.{FrameState}
use Rattle.hl_model.specs.declared.frame.FrameState.TheVariants.{Opened, Sealed, Flushed as FlushedFrame, Closed as ClosedFrame, Free}
use Rattle.hl_model.specs.declared.snapshot.Snapshot.{Snapshot}
use Rattle.hl_model.specs.declared.view.Six.{Six}
use Rattle.hl_model.specs.declared.view.View.{View}
use Rattle.hl_action.specs.Firings.{FiringRecord}
use Rattle.hl_model.specs.declared.step.Reply.{Reply}
use Rattle.hl_model.specs.declared.step.Reply.TheVariants.{Entered, Left, Ticket, Bumped, Taken, Ran, Answer, Settled, Closed, Raised, Shifted, At, Looked, Written, Readable, Value, Page, Flushed, Freed}
use Rattle.hl_model.specs.Faults.{number_of}
use Rattle.hl_answers.specs.declared.outcome.Brief.{Brief}
use Rattle.hl_answers.specs.declared.outcome.Outcome.{Outcome}
use Rattle.hl_answers.specs.declared.quantities.SixOutcome.{SixOutcome}
use Rattle.hl_answers.specs.declared.quantities.SnapshotOutcome.{SnapshotOutcome}

-- an answer of these numbers
abbrev pub accepted : ℕ → ℕ → ℕ → ℕ → Outcome
accepted a b c d = record { number = 0; a = a; b = b; c = c; d = d }

-- a refusal that no fault of the rules is: no core is open, or one is open already; a size, a place or a
-- frame is out of range
abbrev pub refused : ℕ → Outcome
refused number = record { number = number; a = 0; b = 0; c = 0; d = 0 }

abbrev pub no_core : Outcome
no_core = refused 255

abbrev pub out_of_range : Outcome
out_of_range = refused 254

-- what a fault carries, first and second
abbrev pub first_of : Fault → ℕ
first_of (NotReady front safe) = front
first_of (Busy page) = page
first_of (Below read_only) = read_only
first_of (Beyond tail) = tail
first_of (Evicted head) = head
first_of (Stranger stamp) = stamp
first_of (BadLine n) = n
first_of _ = 0

abbrev pub second_of : Fault → ℕ
second_of (NotReady front safe) = safe
second_of _ = 0

-- a fault: its number, and what it carries
abbrev pub fault_outcome : Fault → Outcome
fault_outcome fault =
    record { number = number_of fault; a = first_of fault; b = second_of fault; c = 0; d = 0 }

-- an answer: the epoch with the view, the view alone, what a done did with its kind (1 a job, 2 a settle, 3 a
-- close), or its one number
abbrev pub reply_outcome : Reply → Outcome
reply_outcome (Entered epoch view) = accepted epoch view.read_only view.head view.tail
reply_outcome (Looked view) = accepted 0 view.read_only view.head view.tail
reply_outcome (Ran tag) = accepted tag 1 0 0
reply_outcome (Settled x) = accepted x 2 0 0
reply_outcome (Closed x) = accepted x 3 0 0
reply_outcome Left = accepted 0 0 0 0
reply_outcome Written = accepted 0 0 0 0
reply_outcome Readable = accepted 0 0 0 0
reply_outcome (Ticket x) = accepted x 0 0 0
reply_outcome (Bumped x) = accepted x 0 0 0
reply_outcome (Taken x) = accepted x 0 0 0
reply_outcome (Answer x) = accepted x 0 0 0
reply_outcome (Raised x) = accepted x 0 0 0
reply_outcome (Shifted x) = accepted x 0 0 0
reply_outcome (At x) = accepted x 0 0 0
reply_outcome (Value x) = accepted x 0 0 0
reply_outcome (Page x) = accepted x 0 0 0
reply_outcome (Flushed x) = accepted x 0 0 0
reply_outcome (Freed x) = accepted x 0 0 0

-- a reply
abbrev pub outcome_of : Result Reply Fault → Outcome
outcome_of (Ok reply) = reply_outcome reply
outcome_of (Err fault) = fault_outcome fault

-- an action's kind as a number (1 a job, 2 a settle, 3 a close), and its tag or the offset that it stores
abbrev pub kind_number : Kind → ℕ
kind_number (User tag) = 1
kind_number (Settling x) = 2
kind_number (Closing x) = 3

abbrev pub kind_value : Kind → ℕ
kind_value (User tag) = tag
kind_value (Settling x) = x
kind_value (Closing x) = x

-- a job is 1 with its tag, all else 0
abbrev pub job_number : Kind → ℕ
job_number (User tag) = 1
job_number _ = 0

abbrev pub job_tag : Kind → ℕ
job_tag (User tag) = tag
job_tag _ = 0

-- a take: the ticket of the oldest of the pending actions with its job, or the fault
abbrev pub take_outcome : Result Reply Fault → List Waiting → Outcome
take_outcome (Err fault) ws = fault_outcome fault
take_outcome (Ok reply) [] = reply_outcome reply
take_outcome (Ok reply) (w ∷ ws) = accepted w.ticket (job_number w.kind) (job_tag w.kind) 0

-- what a core's take answers: its ticket, with the tag where it is a job's
abbrev pub taken_outcome : Result (FiringRecord × Option Tag) Fault → Outcome
taken_outcome (Err fault) = fault_outcome fault
taken_outcome (Ok (firing, None)) = accepted firing.ticket 0 0 0
taken_outcome (Ok (firing, Some tag)) = accepted firing.ticket 1 tag.0 0

-- the offsets in their order
abbrev pub six_outcome : Six → SixOutcome
six_outcome s = record {
  number = 0;
  closed = s.closed;
  head = s.head;
  flushed = s.flushed;
  safe_read_only = s.safe_read_only;
  read_only = s.read_only;
  tail = s.tail;
}

-- offsets of no core
abbrev pub no_six : SixOutcome
no_six = record {
  number = 255;
  closed = 0;
  head = 0;
  flushed = 0;
  safe_read_only = 0;
  read_only = 0;
  tail = 0;
}

-- all quantities
abbrev pub snapshot_outcome : Snapshot → SnapshotOutcome
snapshot_outcome s = record {
  number = 0;
  epoch = s.epoch;
  safe = s.safe;
  protected = s.protected;
  pending = s.pending;
  taken = s.taken;
  six = six_outcome s.six;
  frames = s.frames;
}

abbrev pub no_snapshot : SnapshotOutcome
no_snapshot = record {
  number = 255;
  epoch = 0;
  safe = 0;
  protected = 0;
  pending = 0;
  taken = 0;
  six = no_six;
  frames = replicate 5 0;
}

-- the pending action at a place, oldest first, and how many there are
abbrev pub action_outcome : ℕ → Waiting → Outcome
action_outcome count w = accepted w.ticket (kind_number w.kind) (kind_value w.kind) count

unfoldable pub pending_told : ℕ → List Waiting → Outcome
pending_told place ws = unwrap_or (option_map (action_outcome (length ws)) (slice_get ws place)) out_of_range

-- a frame's state, 0 open to 4 free, and its page, if it has one
abbrev pub state_number : FrameState → ℕ
state_number Opened = 0
state_number Sealed = 1
state_number FlushedFrame = 2
state_number ClosedFrame = 3
state_number Free = 4

abbrev pub frame_outcome : FrameState × Option ℕ → Outcome
frame_outcome (state, None) = accepted (state_number state) 0 0 0
frame_outcome (state, Some page) = accepted (state_number state) 1 page 0

-- a protected slot's view
abbrev pub view_outcome : Option View → Outcome
view_outcome None = accepted 0 0 0 0
view_outcome (Some view) = accepted 1 view.read_only view.head view.tail

-- an outcome's number, and the first of those that it carries
abbrev pub brief_of : Outcome → Brief
brief_of outcome = record { number = outcome.number; a = outcome.a }
