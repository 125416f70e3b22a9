-- What the parts of a judge do, and how they leave its reader.
use Rattle.std.specs.Prelude.{◌≡◌, ◌<◌, ℕ, Bool, true, false, Option, Some, None, IfSome, OnSome, Result, Ok, Err, List, [], ◌∷◌, ◌++◌, length, bytes_eq}
use Rattle.std.specs.List.{list_any}
use Rattle.std.specs.Io.KnownBytes.{Consumes, IsAtEnd}
use Rattle.hl_model.specs.declared.fault.Fault.{Fault}
use Rattle.hl_model.specs.declared.fault.Fault.TheVariants.{OutOfMemory, Stream}
use Rattle.hl_line.specs.declared.line.Line.{Line}
use Rattle.hl_script.specs.Cut.{cut, whole_lines}
use Rattle.hl_script.specs.Interpreter.{is_end}
use Rattle.hl_script.specs.Answers.{reply_line}
use Rattle.hl_judge.specs.declared.reading.Ending.{Ending}
use Rattle.hl_judge.specs.declared.reading.Ending.TheVariants.{Line as AtLine, Input as AtInput, Cut as AtCut}
use Rattle.hl_judge.specs.declared.reading.Part.{Part}
use Rattle.hl_judge.specs.declared.reading.Part.TheVariants.{More as PartMore, Line as PartLine, Input as PartInput}
use Rattle.hl_judge.specs.declared.run.Found.{Found}
use Rattle.hl_judge.specs.declared.run.Found.TheVariants.{Agrees as FoundAgrees, Deviates as FoundDeviates, NoEntry as FoundNoEntry}
use Rattle.hl_judge.specs.declared.verdict.Verdict.{Verdict}
use Rattle.hl_judge.specs.declared.verdict.Verdict.TheVariants.{Agrees, Deviates, NoEntry as NoEntryAt}
use Rattle.hl_judge.specs.Traces.{Entry, entry_of, longest, AllAgree, Deviation, NoEntry, judged, judged_after}

-- these bytes were read, and none of them is an LF
pub record ReadInLine (given left : Option (List ℕ)) (bytes : List ℕ) : Type 0 where
  pub consumed : Consumes given left bytes
  pub no_end : list_any is_end bytes ≡ false

-- these bytes were read, and none of them is an LF, and then an LF
pub record ReadLine (given left : Option (List ℕ)) (bytes : List ℕ) : Type 0 where
  pub consumed : Consumes given left (bytes ++ 10 ∷ [])
  pub no_end : list_any is_end bytes ≡ false

-- what the read of a part of a line came to
abbrev pub PartRead : Option (List ℕ) → Option (List ℕ) → List ℕ → Part → Type 0
PartRead given left part PartMore = ReadInLine given left part × (0 < length part)
PartRead given left part PartLine = ReadLine given left part
PartRead given left part PartInput = ReadInLine given left part × OnSome given (IsAtEnd left)

-- what the read of a line came to: its LF, the end of the input behind it, more bytes than a line has, or the
-- end of the input alone
abbrev pub LineRead : Option (List ℕ) → Option (List ℕ) → List ℕ → Option Ending → Type 0
LineRead given left bytes None = ReadInLine given left bytes × OnSome given (IsAtEnd left) × (bytes ≡ [])
LineRead given left bytes (Some AtLine) = ReadLine given left bytes
LineRead given left bytes (Some AtInput) =
    ReadInLine given left bytes × OnSome given (IsAtEnd left) × (0 < length bytes)
LineRead given left bytes (Some AtCut) = ReadInLine given left bytes × (longest < length bytes)

-- the faults of a read into memory
abbrev pub IsReadFault : Fault → Type 0
IsReadFault OutOfMemory = Unit {0}
IsReadFault Stream = Unit {0}
IsReadFault _ = ⊥

-- the entry's reply is the one that the definitions give, and what answers stands behind its line
pub record EntryAgrees (stands : (ℕ → Bool) → List Line → Type 0) (has : ℕ → Bool) (before : List Line)
    (bytes : List ℕ) : Type 0 where
  pub entry : Entry
  pub is_entry : entry_of before bytes ≡ Some entry
  pub same : bytes_eq entry.reply (reply_line has before entry.line) ≡ true
  pub standing : stands has (before ++ entry.line ∷ [])

-- the entry's reply is another than the definitions give
pub record EntryDeviates (has : ℕ → Bool) (before : List Line) (bytes answer : List ℕ) : Type 0 where
  pub entry : Entry
  pub is_entry : entry_of before bytes ≡ Some entry
  pub other : bytes_eq entry.reply (reply_line has before entry.line) ≡ false
  pub is_answer : answer ≡ reply_line has before entry.line

-- what was found in a trace's line, after those before it
abbrev pub FoundIn : ((ℕ → Bool) → List Line → Type 0) → (ℕ → Bool) → List Line → List ℕ → List ℕ → Found
    → Type 0
FoundIn stands has before bytes answer FoundAgrees = EntryAgrees stands has before bytes
FoundIn stands has before bytes answer FoundDeviates = EntryDeviates has before bytes answer
FoundIn stands has before bytes answer FoundNoEntry = entry_of before bytes ≡ None

-- a judge has come to the end of these lines, which agree with those of the script
pub record Come (has : ℕ → Bool) (done : List ℕ) (before : List Line) : Type 0 where
  pub closed : (more : List ℕ) → judged has (done ++ more) ≡ judged_after has before (cut more)
  pub ended : whole_lines done ≡ done

-- a judge stopped behind whole lines, all of which agree
pub record StoppedBehind (has : ℕ → Bool) (given left : Option (List ℕ)) (whole rest : List ℕ) : Type 0 where
  pub consumed : Consumes given left (whole ++ rest)
  pub lines : ℕ
  pub agree : judged has whole ≡ AllAgree lines
  pub ended : whole_lines whole ≡ whole

-- a fact of the bytes that were read, and of all bytes that the reader had, where these are known
pub record Tells (P : List ℕ → Type 0) (given left : Option (List ℕ)) : Type 0 where
  pub input : List ℕ
  pub consumed : Consumes given left input
  pub of_input : P input
  pub of_all : IfSome given P

-- what a judge has told when it ends. Where all lines agree, the reader is at its end. A fault tells nothing of the
-- line at which it came
abbrev pub Judges : (ℕ → Bool) → Option (List ℕ) → Option (List ℕ) → Result Verdict Fault → Type 0
Judges has given left (Ok (Agrees lines)) =
    Tells (λ bytes. judged has bytes ≡ AllAgree lines) given left × OnSome given (IsAtEnd left)
Judges has given left (Ok (Deviates d)) =
    Tells (λ bytes. judged has bytes ≡ Deviation d.line d.given.items d.answer.items) given left
Judges has given left (Ok (NoEntryAt line)) = Tells (λ bytes. judged has bytes ≡ NoEntry line) given left
Judges has given left (Err OutOfMemory) =
    (whole : List ℕ) × (rest : List ℕ) × StoppedBehind has given left whole rest
Judges has given left (Err Stream) =
    (whole : List ℕ) × (rest : List ℕ) × StoppedBehind has given left whole rest
    × (list_any is_end rest ≡ false)
Judges has given left (Err _) = ⊥
