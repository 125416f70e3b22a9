-- What a command's status tells of what was read and written.
use Rattle.std.specs.Prelude.{◌≡◌, ℕ, ◌^◌, Bool, true, false, if◌then◌else◌, Option, None, Some, Result, Ok, Err, List, [], ◌++◌}
use Rattle.std.specs.Io.KnownBytes.{Appends}
use Rattle.hl_model.specs.declared.fault.Fault.{Fault}
use Rattle.hl_model.specs.declared.fault.Fault.TheVariants.{BadLine, OutOfMemory, Stream, Device}
use Rattle.hl_flush.specs.Unflushed.{image_lines}
use Rattle.hl_judge.specs.declared.verdict.Verdict.{Verdict}
use Rattle.hl_judge.specs.Judging.{Judges, IsReadFault}
use Rattle.hl_script.specs.Answers.{sizes_of, accepted}
use Rattle.hl_script.specs.Lines.{script, bad_line}
use Rattle.hl_script.specs.Text.{below, bad_text, text}
use Rattle.hl_script.specs.Outcomes.{ReadToEnd, StoppedAtBadLine, StoppedByStream}
use Rattle.hl_commands.specs.Judged.{verdict_text, judged_status}
use Rattle.hl_commands.specs.Reported.{Reports}

-- a job lies under each tag below 1000, and under no other
abbrev pub AreTheTags : (ℕ → Bool) → Type 0
AreTheTags has = (tag : ℕ) → has tag ≡ below 1000 tag

-- what is written for a script that is answered: its text; and behind it, if they are wanted, the lines of the images of
-- the pages that its accepted steps left sealed, and neither flushed nor in flight
abbrev pub written : (ℕ → Bool) → Bool → List ℕ → List ℕ
written has images input =
    text has input
    ++ (if images then image_lines (sizes_of (script input)) (accepted has (script input)) else [])

-- the status of a script that came to this: 0 at its end, 2 at a line that is no step; and 1 at any other fault, and if
-- what was written didn't go out
abbrev pub script_status : Result (Unit {0}) Fault → Bool → ℕ
script_status ended false = 1
script_status (Ok done) true = 0
script_status (Err (BadLine n)) true = 2
script_status (Err _) true = 1

-- the faults that end a script; a device fails only where images are wanted
abbrev pub EndsScript : Bool → Fault → Type 0
EndsScript images (BadLine n) = Unit {0}
EndsScript images OutOfMemory = Unit {0}
EndsScript images Stream = Unit {0}
EndsScript images Device = images ≡ true
EndsScript images _ = ⊥

-- the script was read to its end, each of its lines is good, and all of this was written
pub record Answers (has : ℕ → Bool) (images : Bool) (given left before after : Option (List ℕ)) : Type 0 where
  pub input : List ℕ
  pub read : ReadToEnd (2 ^ 32) given left input
  pub good : bad_line input ≡ None
  pub wrote : Appends before after (written has images input)

-- what a run of a script came to: an end, a line that is no step, or a fault, and which
pub record EndsText (images : Bool) (given left before after : Option (List ℕ))
    (ended : Result (Unit {0}) Fault) : Type 0 where
  pub has : ℕ → Bool
  pub tags : AreTheTags has
  pub done : ended ≡ Ok tt → Answers has images given left before after
  pub refused : (n : ℕ) → ended ≡ Err (BadLine n)
      → StoppedAtBadLine has (2 ^ 32) given left before after n
  pub broken : ended ≡ Err Stream → StoppedByStream has (2 ^ 32) given left before after
  pub faults : (fault : Fault) → ended ≡ Err fault → EndsScript images fault

-- a script was answered: its run came to an end, what was written then went out or not, and this is the status of that
pub record Answered (images : Bool) (given left before after : Option (List ℕ)) (status : ℕ) : Type 0 where
  pub ended : Result (Unit {0}) Fault
  pub is_out : Bool
  pub ends : EndsText images given left before after ended
  pub status_is : status ≡ script_status ended is_out

-- what a run for a report came to
pub record EndsReport (given left before after : Option (List ℕ)) (ended : Result (Unit {0}) Fault)
    : Type 0 where
  pub has : ℕ → Bool
  pub tags : AreTheTags has
  pub done : ended ≡ Ok tt → Reports has given left before after
  pub refused : (n : ℕ) → ended ≡ Err (BadLine n)
      → StoppedAtBadLine has (2 ^ 32) given left None None n × Appends before after (bad_text (Some n))
  pub faults : (fault : Fault) → ended ≡ Err fault → EndsScript false fault

-- so its status is 0 only where the report was written, and 2 only where the text of a bad line was
pub record ReportedAs (given left before after : Option (List ℕ)) (status : ℕ) : Type 0 where
  pub ended : Result (Unit {0}) Fault
  pub is_out : Bool
  pub ends : EndsReport given left before after ended
  pub status_is : status ≡ script_status ended is_out

-- what a judge came to: what the trace shows was written; or memory was refused, or a stream failed
abbrev pub EndsJudging : (ℕ → Bool) → Option (List ℕ) → Option (List ℕ) → Option (List ℕ)
    → Result Verdict Fault → Type 0
EndsJudging has given before after (Ok verdict) =
    ((left : Option (List ℕ)) × Judges has given left (Ok verdict)) × Appends before after (verdict_text verdict)
EndsJudging has given before after (Err fault) = IsReadFault fault

-- a trace was judged: this is the status of what the judge came to
pub record JudgedAs (given before after : Option (List ℕ)) (status : ℕ) : Type 0 where
  pub has : ℕ → Bool
  pub tags : AreTheTags has
  pub ended : Result Verdict Fault
  pub ends : EndsJudging has given before after ended
  pub status_is : status ≡ judged_status ended
