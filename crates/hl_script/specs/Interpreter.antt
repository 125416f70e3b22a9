-- Where a run stands in its input, and how its parts leave it. No definition of the text rests on these.
use Rattle.std.specs.Prelude.{◌≡◌, ◌<◌, ◌⊎◌, ℕ, ◌==◌, Bool, true, false, Option, Some, None, Result, Ok, Err, List, [], ◌∷◌, ◌++◌, length}
use Rattle.std.specs.List.{list_any}
use Rattle.std.specs.Io.KnownBytes.{Appends, Keeps}
use Rattle.hl_model.specs.Lists.{until_last}
use Rattle.hl_model.specs.declared.fault.Fault.{Fault}
use Rattle.hl_model.specs.declared.fault.Fault.TheVariants.{BadLine, OutOfMemory, Stream}
use Rattle.hl_line.specs.Streams.{BreaksOff}
use Rattle.hl_line.specs.declared.line.Line.{Line}
use Rattle.hl_script.specs.Cut.{cut, whole_lines, unfinished_line}
use Rattle.hl_script.specs.Lines.{is_config, script, bad_line, good_lines}
use Rattle.hl_script.specs.Answers.{reply_line, accepted, is_accepted, sizes_of}
use Rattle.hl_script.specs.Text.{answers, bad_text, text}
use Rattle.hl_script.specs.Outcomes.{WroteBad, IsJudged, WroteUpTo}

-- the byte that ends a line
abbrev pub is_end : ℕ → Bool
is_end b = b == 10

-- what a line is answered after those before it, with the LF
abbrev pub answered : (ℕ → Bool) → List Line → Line → List ℕ
answered has before line = reply_line has before line ++ 10 ∷ []

-- what stood at the lines before answered one more
pub record Answered (stands : (ℕ → Bool) → List Line → Type 0) (has : ℕ → Bool) (before : List Line)
    (line : Line) (old new : Option (List ℕ)) (counted : Bool) : Type 0 where
  pub wrote : Appends old new (answered has before line)
  pub standing : stands has (before ++ line ∷ [])
  pub counts : counted ≡ is_accepted has (sizes_of before) (accepted has before) line

-- what stood at the lines before made of one more: a config is none that it answers
abbrev pub Answers : ((ℕ → Bool) → List Line → Type 0) → (Line → Bool) → (ℕ → Bool) → List Line → Line
    → Option (List ℕ) → Option (List ℕ) → Result (Option Bool) Fault → Type 0
Answers stands lacks has before line old new (Ok None) = (is_config line ≡ true) × Keeps old new
Answers stands lacks has before line old new (Ok (Some counted)) =
    Answered stands has before line old new counted
Answers stands lacks has before line old new (Err OutOfMemory) = Appends old new [] × (lacks line ≡ true)
Answers stands lacks has before line old new (Err Stream) = BreaksOff old new (answered has before line)
Answers stands lacks has before line old new (Err _) = ⊥

-- a line n that is no step was told, or the first bytes of that
abbrev pub Refuses : Option (List ℕ) → Option (List ℕ) → ℕ → Fault → Type 0
Refuses old new n (BadLine m) = (m ≡ n) × Appends old new (bad_text (Some n))
Refuses old new n Stream = BreaksOff old new (bad_text (Some n))
Refuses old new n _ = ⊥

-- what was written where a run stopped in these bytes, but for a failed read
abbrev pub Stopped : (ℕ → Bool) → (Line → Bool) → Option (List ℕ) → Option (List ℕ) → Fault → List ℕ → Type 0
Stopped has lacks before after (BadLine n) bytes = WroteBad has before after n bytes
Stopped has lacks before after OutOfMemory bytes = WroteUpTo has lacks before after bytes
Stopped has lacks before after Stream bytes = BreaksOff before after (text has bytes)
Stopped has lacks before after _ bytes = ⊥

-- a write failed at a line whose LF, or whose 81st byte, is the last of a front of these bytes, whatever
-- follows that front
pub record BrokeOff (has : ℕ → Bool) (before after : Option (List ℕ)) (bytes : List ℕ) : Type 0 where
  pub front : List ℕ
  pub rest : List ℕ
  pub is_front : front ++ rest ≡ bytes
  pub wrote : (more : List ℕ) → BreaksOff before after (text has (front ++ more))
  pub ended : (whole_lines front ≡ front) ⊎ (80 < length (unfinished_line front))

-- where a run stopped at a line, these bytes have that line's LF, or its 81st byte
abbrev pub Judges : (ℕ → Bool) → Option (List ℕ) → Option (List ℕ) → Fault → List ℕ → Type 0
Judges has before after (BadLine n) bytes = IsJudged n bytes
Judges has before after Stream bytes = BrokeOff has before after bytes
Judges has before after _ bytes = Unit {0}

-- these bytes are the whole lines before, all of them good, and the beginning of a line
pub record Reached (done : List ℕ) (before : List Line) (line : List ℕ) : Type 0 where
  pub whole : List ℕ
  pub parts : done ≡ whole ++ line
  pub closed : (more : List ℕ) → cut (whole ++ more) ≡ cut whole ++ cut more
  pub good : script whole ≡ before
  pub all : length (cut whole) ≡ length before
  pub ended : until_last is_end whole ≡ length whole
  pub no_end : list_any is_end line ≡ false

-- these bytes begin with the lines before, all of them good, and then have this one
pub record Faces (bytes : List ℕ) (before : List Line) (line : List ℕ) : Type 0 where
  pub front : List (List ℕ)
  pub others : List (List ℕ)
  pub cuts : cut bytes ≡ front ++ line ∷ others
  pub good : good_lines [] front ≡ before
  pub all : length front ≡ length before

-- the lines of these bytes are all good
pub record IsGood (bytes : List ℕ) (all : List Line) : Type 0 where
  pub lines : script bytes ≡ all
  pub number : bad_line bytes ≡ None

-- these bytes are the lines before, whole and good; or the input has ended with the last of them
abbrev pub Between : Bool → List ℕ → List Line → Type 0
Between ended done before = Reached done before [] ⊎ ((ended ≡ true) × IsGood done before)

-- a run has come behind these lines of its input: how many there are, and how many of them are accepted steps; and what
-- was written since it began
pub record At (stands : (ℕ → Bool) → List Line → Type 0) (has : ℕ → Bool) (done : List ℕ) (before : List Line)
    (from to : Option (List ℕ)) (ended : Bool) (count taken : ℕ) : Type 0 where
  pub standing : stands has before
  pub place : Between ended done before
  pub lines : count ≡ length before
  pub steps : taken ≡ length (accepted has before)
  pub wrote : Appends from to (answers has before)
