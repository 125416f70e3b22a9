-- What each line of a script is answered, told the lines before it and the set of tags that have a job.
use Rattle.std.specs.Prelude.{ℕ, ◌+◌, ◌==◌, Bool, false, ◌||◌, not, if◌then◌else◌, Option, Some, None, is_none, Result, Ok, Err, List, [], ◌∷◌, ◌++◌, length, codes, decimal}
use Rattle.std.specs.List.{list_any, flat_map, range_with_len}
use Rattle.hl_model.specs.declared.action.Kind.{Kind}
use Rattle.hl_model.specs.declared.action.Kind.TheVariants.{User, Settle, Close}
use Rattle.hl_model.specs.declared.action.Waiting.{Waiting}
use Rattle.hl_model.specs.declared.fault.Fault.{Fault}
use Rattle.hl_model.specs.declared.fault.Fault.TheVariants.{NoJob}
use Rattle.hl_model.specs.declared.frame.FrameState.{FrameState}
use Rattle.hl_model.specs.declared.frame.FrameState.TheVariants.{Opened, Sealed, Flushed, Closed, Free}
use Rattle.hl_model.specs.declared.step.Reply.{Reply}
use Rattle.hl_model.specs.declared.step.Reply.TheVariants.{Ran, Answer}
use Rattle.hl_model.specs.declared.step.Step.{Step}
use Rattle.hl_model.specs.declared.step.Step.TheVariants.{Bump, Done}
use Rattle.hl_model.specs.declared.view.Six.{Six}
use Rattle.hl_model.specs.Sizes.{Sizes}
use Rattle.hl_model.specs.Epochs.{current_epoch, safe_epoch}
use Rattle.hl_model.specs.Actions.{pending, taken}
use Rattle.hl_model.specs.Frames.{frame_of}
use Rattle.hl_model.specs.Snapshots.{six}
use Rattle.hl_model.specs.Replies.{fault_of, answer_of, unless_fault, with_word}
use Rattle.hl_line.specs.declared.line.Line.{Line}
use Rattle.hl_line.specs.declared.line.Line.TheVariants.{Config, Step as Makes, Status, Pending, Frames}
use Rattle.hl_line.specs.Replies.{reply_text, fault_text}

-- a bump with the job of this tag
abbrev pub bears : ℕ → Step → Bool
bears tag (Bump borne) = borne == tag
bears tag _ = false

-- a bump whose tag has no job, or none left: an accepted bump bore it
abbrev pub lacks_job : (ℕ → Bool) → List Step → Step → Bool
lacks_job has A (Bump tag) = not (has tag) || list_any (bears tag) A
lacks_job has A _ = false

-- the fault that a script's step meets after the accepted steps A: a bump first tries the tags
abbrev pub line_fault : (ℕ → Bool) → Sizes → List Step → Step → Option Fault
line_fault has sizes A step = if lacks_job has A step then Some NoJob else fault_of sizes A step

-- a job answers its tag + its ticket
abbrev pub shown : Step → Reply → Reply
shown (Done ticket) (Ran tag) = Answer (tag + ticket)
shown _ reply = reply

-- the answer to a script's step that is accepted after the steps A: a read is told the word, a done what its
-- job answers
abbrev pub line_answer : Sizes → List Step → Step → Reply
line_answer sizes A step = shown step (with_word A step (answer_of sizes A (A ++ step ∷ []) step))

-- the reply to a script's step after the accepted steps A
abbrev pub line_reply : (ℕ → Bool) → Sizes → List Step → Step → Result Reply Fault
line_reply has sizes A step = unless_fault (line_fault has sizes A step) (line_answer sizes A step)

-- the sizes of the config that stands first; all 0 without one
abbrev pub sizes_of : List Line → Sizes
sizes_of (Config sizes ∷ others) = sizes
sizes_of _ = record { page_size = 0; frames = 0; slots = 0; drain = 0 }

-- whether a line is a step that is accepted after the accepted steps A
abbrev pub is_accepted : (ℕ → Bool) → Sizes → List Step → Line → Bool
is_accepted has sizes A (Makes step) = is_none (line_fault has sizes A step)
is_accepted has sizes A _ = false

-- A with a line's step, where it is accepted
abbrev pub with_line : (ℕ → Bool) → Sizes → List Step → Line → List Step
with_line has sizes A (Makes step) = if is_none (line_fault has sizes A step) then A ++ step ∷ [] else A
with_line has sizes A _ = A

-- A with the steps of these lines that are accepted, each after those before it
unfoldable pub accepted_after : (ℕ → Bool) → Sizes → List Step → List Line → List Step
accepted_after has sizes A [] = A
accepted_after has sizes A (line ∷ lines) = accepted_after has sizes (with_line has sizes A line) lines

-- the accepted steps of these lines
unfoldable pub accepted : (ℕ → Bool) → List Line → List Step
accepted has lines = accepted_after has (sizes_of lines) [] lines

-- a space, a name, a space and a number
unfoldable pub named : List ℕ → ℕ → List ℕ
named name n = 32 ∷ (name ++ 32 ∷ decimal n)

-- the quantities by their names: two epochs, how many actions are pending and taken, and the six offsets
unfoldable pub quantities_text : ℕ → ℕ → ℕ → ℕ → Six → List ℕ
quantities_text epoch safe pending taken six =
    codes "status" ++ named (codes "epoch") epoch ++ named (codes "safe") safe
    ++ named (codes "pending") pending ++ named (codes "taken") taken
    ++ named (codes "closed") six.closed ++ named (codes "head") six.head
    ++ named (codes "flushed") six.flushed ++ named (codes "safe_read_only") six.safe_read_only
    ++ named (codes "read_only") six.read_only ++ named (codes "tail") six.tail

-- the quantities after the accepted steps A
unfoldable pub status_text : Sizes → List Step → List ℕ
status_text sizes A =
    quantities_text (current_epoch A) (safe_epoch sizes.slots A) (length (pending A)) (length (taken A))
    (six sizes A)

-- what an action does, with its tag or its stored offset
abbrev pub kind_text : Kind → List ℕ
kind_text (User tag) = codes ":user:" ++ decimal tag
kind_text (Settle x) = codes ":settle:" ++ decimal x
kind_text (Close x) = codes ":close:" ++ decimal x

-- a space, an action's ticket, and what it does
unfoldable pub waiting_text : Waiting → List ℕ
waiting_text waiting = 32 ∷ (decimal waiting.ticket ++ kind_text waiting.kind)

-- these actions, oldest first
unfoldable pub pending_text : List Waiting → List ℕ
pending_text waiting = codes "pending" ++ flat_map waiting_text waiting

-- what a frame is at
abbrev pub state_text : FrameState → List ℕ
state_text Opened = codes "open"
state_text Sealed = codes "sealed"
state_text Flushed = codes "flushed"
state_text Closed = codes "closed"
state_text Free = codes "free"

-- the page that lies in a frame, where it isn't free
abbrev pub page_text : Option ℕ → List ℕ
page_text None = []
page_text (Some p) = codes ":" ++ decimal p

-- a space, what a frame is at, and its page
unfoldable pub frame_text : FrameState × Option ℕ → List ℕ
frame_text frame = 32 ∷ (state_text frame.0 ++ page_text frame.1)

-- what each frame is at after the accepted steps A
unfoldable pub frames_text : Sizes → List Step → List ℕ
frames_text sizes A =
    codes "frames" ++ flat_map (λ f. frame_text (frame_of sizes f A)) (range_with_len 0 sizes.frames)

-- an answer, or the fault
abbrev pub result_text : Result Reply Fault → List ℕ
result_text (Ok reply) = reply_text reply
result_text (Err fault) = fault_text fault

-- what a line is answered, without an LF, after the accepted steps A
abbrev pub answer_text : (ℕ → Bool) → Sizes → List Step → Line → List ℕ
answer_text has sizes A (Config given) = codes "opened"
answer_text has sizes A (Makes step) = result_text (line_reply has sizes A step)
answer_text has sizes A Status = status_text sizes A
answer_text has sizes A Pending = pending_text (pending A)
answer_text has sizes A Frames = frames_text sizes A

-- what a line is answered, without an LF, after the lines before it
abbrev pub reply_line : (ℕ → Bool) → List Line → Line → List ℕ
reply_line has before line = answer_text has (sizes_of before) (accepted has before) line
