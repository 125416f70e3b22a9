-- The line that some bytes spell: they are read loosely, and the spelling of what was read is compared with
-- them.
use Rattle.std.specs.Prelude.{ℕ, ◌+◌, ◌-◌, ◌*◌, ◌^◌, min, ◌==◌, nat_le, Bool, ◌&&◌, if◌then◌else◌, Option, Some, None, option_map, option_and_then, List, [], ◌∷◌, ◌++◌, codes, fold, bytes_eq}
use Rattle.std.specs.Int.{is_power_of_two}
use Rattle.std.specs.List.{before_first, after_first}
use Rattle.std.specs.Map.{lookup}
use Rattle.hl_model.specs.declared.step.Step.{Step}
use Rattle.hl_model.specs.declared.step.Step.TheVariants.{Acquire, Refresh, Release, Bump, Settle, Close, Bare, Take, Done, Raise, Shift, Allocate, Look, Write, Read, FlushTake, FlushDone, CleanTake, CleanDone}
use Rattle.hl_model.specs.Sizes.{Sizes}
use Rattle.hl_line.specs.declared.line.Line.{Line}
use Rattle.hl_line.specs.declared.line.Line.TheVariants.{Config, Step as Makes, Status, Pending, Frames}
use Rattle.hl_line.specs.Lines.{spelling}

-- the bytes before the first space
abbrev pub first_word : List ℕ → List ℕ
first_word s = before_first (λ b. b == 32) s

-- the bytes after the first space; none where there is no space
abbrev pub other_words : List ℕ → List ℕ
other_words s = after_first (λ b. b == 32) s

-- a number and one more digit, at most 2^64 - 1
unfoldable pub with_digit : ℕ → ℕ → ℕ
with_digit n digit = min (n * 10 + (digit - 48)) (2 ^ 64 - 1)

-- the number that a word spells, read loosely: whatever stands in it counts as a digit
unfoldable pub number_in : List ℕ → ℕ
number_in word = fold with_digit 0 word

-- the sizes are narrow
abbrev pub are_narrow : Sizes → Bool
are_narrow s =
    nat_le 4 s.page_size && nat_le s.page_size 4096 && is_power_of_two s.page_size
    && nat_le 2 s.frames && nat_le s.frames 256
    && nat_le 1 s.slots && nat_le s.slots 64
    && nat_le 1 s.drain && nat_le s.drain 64

-- the line that opens with these sizes, if they are narrow
unfoldable pub config_of : Sizes → Option Line
config_of sizes = if are_narrow sizes then Some (Config sizes) else None

-- what stands beside a word in a table
abbrev pub beside : {A : Type 0} → List ℕ → List (List ℕ × A) → Option A
beside word rows = lookup (bytes_eq word) rows

-- the keywords of the epochs and their actions, and the step that each makes with a number
abbrev pub epoch_steps : ℕ → List (List ℕ × Step)
epoch_steps a =
    (codes "acquire", Acquire a)
    ∷ (codes "refresh", Refresh a)
    ∷ (codes "release", Release a)
    ∷ (codes "bump", Bump a)
    ∷ (codes "settle", Settle)
    ∷ (codes "close", Close)
    ∷ (codes "bare", Bare)
    ∷ (codes "take", Take)
    ∷ (codes "done", Done a)
    ∷ []

-- the keywords of the offsets and the words, and the step that each makes with as many of the numbers as it
-- has
abbrev pub word_steps : ℕ → ℕ → ℕ → List (List ℕ × Step)
word_steps a b c =
    (codes "raise", Raise a)
    ∷ (codes "shift", Shift a)
    ∷ (codes "alloc", Allocate a b)
    ∷ (codes "look", Look a b c)
    ∷ (codes "write", Write a b c)
    ∷ (codes "read", Read a b)
    ∷ []

-- what may follow `flush`, and the step that it makes; a flush went well where its last word is `ok`
abbrev pub flush_steps : ℕ → List ℕ → List (List ℕ × Step)
flush_steps page last =
    (codes "take", FlushTake)
    ∷ (codes "done", FlushDone page (bytes_eq last (codes "ok")))
    ∷ []

-- what may follow `clean`, and the step that it makes
abbrev pub clean_steps : ℕ → List (List ℕ × Step)
clean_steps page =
    (codes "take", CleanTake)
    ∷ (codes "done", CleanDone page)
    ∷ []

-- the step of a keyword with these words after it, if it is one
unfoldable pub step_with : List ℕ → List ℕ → List ℕ → List ℕ → Option Step
step_with keyword first second third =
    let a = number_in first in
    let b = number_in second in
    let c = number_in third in
    if bytes_eq keyword (codes "flush") then beside first (flush_steps b third)
    else if bytes_eq keyword (codes "clean") then beside first (clean_steps b)
    else beside keyword (epoch_steps a ++ word_steps a b c)

-- the line of a keyword with these words after it, if it is one
unfoldable pub line_with : List ℕ → List ℕ → List ℕ → List ℕ → List ℕ → Option Line
line_with keyword first second third fourth =
    let sizes : Sizes = record {
      page_size = number_in first;
      frames = number_in second;
      slots = number_in third;
      drain = number_in fourth;
    } in
    if bytes_eq keyword (codes "config") then config_of sizes
    else if bytes_eq keyword (codes "status") then Some Status
    else if bytes_eq keyword (codes "pending") then Some Pending
    else if bytes_eq keyword (codes "frames") then Some Frames
    else option_map Makes (step_with keyword first second third)

-- what the bytes look like, read loosely
unfoldable pub guess_of : List ℕ → Option Line
guess_of s =
    let first = other_words s in
    let second = other_words first in
    let third = other_words second in
    let fourth = other_words third in
    line_with (first_word s) (first_word first) (first_word second) (first_word third) (first_word fourth)

-- the line that is spelled so, if there is one
unfoldable pub line_of : List ℕ → Option Line
line_of s = option_and_then (λ line. if bytes_eq (spelling line) s then Some line else None) (guess_of s)
