-- What a judge says of a trace: a function of its bytes and of the tags that have a job.
use Rattle.std.specs.Prelude.{ℕ, ◌+◌, nat_le, nat_eq, Bool, if◌then◌else◌, Option, Some, None, List, [], ◌∷◌, ◌++◌, length, drop, codes, bytes_eq, unwrap_or, flat_map}
use Rattle.std.specs.List.{starts_with}
use Rattle.std.specs.Option.{option_map_or}
use Rattle.hl_line.specs.declared.line.Line.{Line}
use Rattle.hl_line.specs.Reading.{line_of}
use Rattle.hl_script.specs.Cut.{cut}
use Rattle.hl_script.specs.Lines.{allowed}
use Rattle.hl_script.specs.Answers.{reply_line}

-- whether some bytes begin with ` -> `
abbrev pub begins_reply : List ℕ → Bool
begins_reply bytes = starts_with nat_eq bytes (codes " -> ")

-- the bytes before the first ` -> `: all of them where there is none
unfoldable pub line_part : List ℕ → List ℕ
line_part [] = []
line_part (b ∷ bytes) = if begins_reply (b ∷ bytes) then [] else b ∷ line_part bytes

-- the bytes behind the first ` -> `: None where there is none
unfoldable pub reply_part : List ℕ → Option (List ℕ)
reply_part [] = None
reply_part (b ∷ bytes) = if begins_reply (b ∷ bytes) then Some (drop 4 (b ∷ bytes)) else reply_part bytes

-- a line of a script, and the reply that an engine gave to it
pub record Entry : Type 0 where
  pub line : Line
  pub reply : List ℕ

-- the entry of a line and a reply, where both are there
abbrev pub entry_of_parts : Option Line → Option (List ℕ) → Option Entry
entry_of_parts None reply = None
entry_of_parts (Some line) None = None
entry_of_parts (Some line) (Some reply) = Some (record { line = line; reply = reply })

-- how many bytes a line of a trace has at most: a script's line of 80, ` -> `, and a reply of 8192
abbrev pub longest : ℕ
longest = 8276

-- the entry that a trace's line is after these lines of the script; None where it is none
unfoldable pub entry_of : List Line → List ℕ → Option Entry
entry_of before bytes =
    if nat_le (length bytes) longest
    then entry_of_parts (allowed before (line_of (line_part bytes))) (reply_part bytes)
    else None

-- what a judge finds in a trace: all of so many lines agree; or which line, counted from 1, is the first that
-- deviates, its bytes, and what the definitions answer; or which is the first that is no line of a trace
pub data Finding : Type 0 where
  AllAgree : ℕ → Finding
  Deviation : ℕ → List ℕ → List ℕ → Finding
  NoEntry : ℕ → Finding

-- what is found in these lines of a trace, after those that agree with these lines of the script
unfoldable pub judged_after : (ℕ → Bool) → List Line → List (List ℕ) → Finding
judged_after has before [] = AllAgree (length before)
judged_after has before (bytes ∷ others) =
    option_map_or
    (λ entry. if bytes_eq entry.reply (reply_line has before entry.line)
    then judged_after has (before ++ entry.line ∷ []) others
    else Deviation (length before + 1) bytes (reply_line has before entry.line))
    (entry_of before bytes) (NoEntry (length before + 1))

-- what is found in a trace
unfoldable pub judged : (ℕ → Bool) → List ℕ → Finding
judged has bytes = judged_after has [] (cut bytes)

-- the script of a trace: what stands before the first ` -> ` of each line, with an LF
unfoldable pub script_of : List ℕ → List ℕ
script_of trace = flat_map (λ bytes. line_part bytes ++ 10 ∷ []) (cut trace)

-- the replies of a trace: what stands behind the first ` -> ` of each line, with an LF
unfoldable pub replies_of : List ℕ → List ℕ
replies_of trace = flat_map (λ bytes. unwrap_or (reply_part bytes) [] ++ 10 ∷ []) (cut trace)
