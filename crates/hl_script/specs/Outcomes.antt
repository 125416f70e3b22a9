-- What a run over a reader and a writer has done when it ends.
use Rattle.std.specs.Prelude.{◌≡◌, ◌<◌, ◌≤◌, ◌⊎◌, ◌+◌, ◌*◌, length, ℕ, Bool, true, Option, Some, None, Result, Ok, Err, List, [], ◌∷◌, ◌++◌}
use Rattle.std.specs.Io.KnownBytes.{Appends, Consumes, IsAtEnd}
use Rattle.hl_line.specs.Streams.{BreaksOff}
use Rattle.hl_line.specs.declared.line.Line.{Line}
use Rattle.hl_model.specs.declared.fault.Fault.{Fault}
use Rattle.hl_model.specs.declared.fault.Fault.TheVariants.{BadLine as BadLineFault, OutOfMemory as OutOfMemoryFault, Stream as StreamFault}
use Rattle.hl_script.specs.Cut.{whole_lines, unfinished_line}
use Rattle.hl_script.specs.Lines.{is_config, may_stand, script, bad_line}
use Rattle.hl_script.specs.Text.{answers, text}

-- these bytes were read, in at most so many reads: a read gives at most 16384 bytes
pub record ReadWithin (reads : ℕ) (given left : Option (List ℕ)) (input : List ℕ) : Type 0 where
  pub consumed : Consumes given left input
  pub few : length input ≤ 16384 * reads

-- these bytes were read to their end, in at most so many reads, of which the last gave none
pub record ReadToEnd (reads : ℕ) (given left : Option (List ℕ)) (input : List ℕ) : Type 0 where
  pub consumed : Consumes given left input
  pub at_end : IsAtEnd left
  pub few : length input + 16384 ≤ 16384 * reads

-- the writer took the text of these bytes, and none of their lines is bad
pub record WroteAll (has : ℕ → Bool) (before after : Option (List ℕ)) (bytes : List ℕ) : Type 0 where
  pub wrote : Appends before after (text has bytes)
  pub good : bad_line bytes ≡ None

-- the writer took the text of these bytes, whose first bad line is line n
pub record WroteBad (has : ℕ → Bool) (before after : Option (List ℕ)) (n : ℕ) (bytes : List ℕ) : Type 0 where
  pub wrote : Appends before after (text has bytes)
  pub bad : bad_line bytes ≡ Some n

-- line n was found bad in the first of these bytes, which end with its LF, or have its 81st byte
pub record IsJudged (n : ℕ) (bytes : List ℕ) : Type 0 where
  pub front : List ℕ
  pub rest : List ℕ
  pub is_front : front ++ rest ≡ bytes
  pub bad : bad_line front ≡ Some n
  pub ended : (whole_lines front ≡ front) ⊎ (80 < length (unfinished_line front))

-- the writer took the text of the whole lines of these bytes, none of them bad, and the line that isn't whole
-- is no longer than a line may be
pub record WroteWholeLines (has : ℕ → Bool) (before after : Option (List ℕ)) (bytes : List ℕ) : Type 0 where
  pub whole : WroteAll has before after (whole_lines bytes)
  pub unfinished : length (unfinished_line bytes) ≤ 80

-- the writer took the answers to the lines before this one, at which memory was refused
pub record WroteUpTo (has : ℕ → Bool) (lacks : Line → Bool) (before after : Option (List ℕ)) (bytes : List ℕ)
    : Type 0 where
  pub lines : List Line
  pub line : Line
  pub others : List Line
  pub good : script bytes ≡ lines ++ line ∷ others
  pub stands : may_stand lines line ≡ true
  pub lacking : lacks line ≡ true
  pub wrote : Appends before after (answers has lines)

-- a fact of the bytes that were consumed, and also of those together with all that the reader has left
pub record Settled (left : Option (List ℕ)) (P : List ℕ → Type 0) (input : List ℕ) : Type 0 where
  pub given : P input
  pub with_left : (more : List ℕ) → left ≡ Some more → P (input ++ more)

-- the writer took the beginning of the text of these bytes, and not all of it
abbrev pub WroteFront : (ℕ → Bool) → Option (List ℕ) → Option (List ℕ) → List ℕ → Type 0
WroteFront has before after bytes = BreaksOff before after (text has bytes)

-- a write failed: what is missing is of the text of the whole lines, or of a line with an 81st byte, or the
-- input has ended
pub record FailedWrite (has : ℕ → Bool) (reads : ℕ) (given left before after : Option (List ℕ))
    (input : List ℕ) : Type 0 where
  pub front : Settled left (WroteFront has before after) input
  pub place : WroteFront has before after (whole_lines input) ⊎ (80 < length (unfinished_line input))
      ⊎ ReadToEnd reads given left input

-- memory was refused at line 1 of these bytes, a config, and nothing was written
pub record LackedAtConfig (before after : Option (List ℕ)) (bytes : List ℕ) : Type 0 where
  pub line : Line
  pub others : List Line
  pub first : script bytes ≡ line ∷ others
  pub config : is_config line ≡ true
  pub nothing : Appends before after []

-- a run stopped at line n, which is no step: its LF, its 81st byte or the end of the input was read
abbrev pub StoppedAtBadLine : (ℕ → Bool) → ℕ → Option (List ℕ) → Option (List ℕ) → Option (List ℕ)
    → Option (List ℕ) → ℕ → Type 0
StoppedAtBadLine has reads given left before after n =
    (input : List ℕ) × ReadWithin reads given left input × Settled left (WroteBad has before after n) input
    × (IsJudged n input ⊎ ReadToEnd reads given left input)

-- a run stopped where memory was refused
abbrev pub StoppedByMemory : ℕ → Option (List ℕ) → Option (List ℕ) → (List ℕ → Type 0) → Type 0
StoppedByMemory reads given left P =
    (input : List ℕ) × ReadWithin reads given left input × Settled left P input

-- a run stopped at its reader: a read or the flush before it failed, or all reads were made; or it stopped at
-- its writer
abbrev pub StoppedByStream : (ℕ → Bool) → ℕ → Option (List ℕ) → Option (List ℕ) → Option (List ℕ)
    → Option (List ℕ) → Type 0
StoppedByStream has reads given left before after =
    (input : List ℕ) × ReadWithin reads given left input
    × (WroteWholeLines has before after input ⊎ FailedWrite has reads given left before after input)

-- what a run stopped at: a bad line, no memory, or its streams; and what no memory leaves
abbrev pub RunStopped : (ℕ → Bool) → ℕ → Option (List ℕ) → Option (List ℕ) → Option (List ℕ) → Option (List ℕ)
    → (List ℕ → Type 0) → Fault → Type 0
RunStopped has reads given left before after lacked (BadLineFault n) =
    StoppedAtBadLine has reads given left before after n
RunStopped has reads given left before after lacked OutOfMemoryFault = StoppedByMemory reads given left lacked
RunStopped has reads given left before after lacked StreamFault =
    StoppedByStream has reads given left before after
RunStopped has reads given left before after lacked _ = ⊥

-- what a run came to: all was read and answered, and this is left at the end of the lines; or it stopped at a fault
abbrev pub TextRan : {X : Type 0} → (ℕ → Bool) → ℕ → Option (List ℕ) → Option (List ℕ) → Option (List ℕ)
    → Option (List ℕ) → (List ℕ → Type 0) → (List Line → X → Type 0) → Result X Fault → Type 0
TextRan has reads given left before after lacked ends (Ok end) =
    (input : List ℕ) × ReadToEnd reads given left input × WroteAll has before after input
    × ends (script input) end
TextRan has reads given left before after lacked ends (Err fault) =
    RunStopped has reads given left before after lacked fault
