-- Which lines of a script are good, and where the first that is no step stands.
use Rattle.std.specs.Prelude.{ℕ, ◌+◌, ◌==◌, Bool, true, false, not, if◌then◌else◌, Option, Some, None, option_and_then, List, [], ◌∷◌, ◌++◌, length}
use Rattle.std.specs.Option.{option_map_or}
use Rattle.hl_line.specs.declared.line.Line.{Line}
use Rattle.hl_line.specs.declared.line.Line.TheVariants.{Config, Step as Makes}
use Rattle.hl_line.specs.Reading.{line_of}
use Rattle.hl_script.specs.Cut.{cut}

-- a line that gives the sizes
abbrev pub is_config : Line → Bool
is_config (Config sizes) = true
is_config _ = false

-- the lines at which memory may be refused: a config, and the steps too where each takes some
abbrev pub takes_memory : Bool → Line → Bool
takes_memory steps_do (Config sizes) = true
takes_memory steps_do (Makes step) = steps_do
takes_memory steps_do _ = false

-- whether a line may stand after these: a config stands at line 1 and nowhere else
abbrev pub may_stand : List Line → Line → Bool
may_stand before line = if length before == 0 then is_config line else not (is_config line)

-- the line, if it may stand after these
abbrev pub allowed : List Line → Option Line → Option Line
allowed before found = option_and_then (λ line. if may_stand before line then Some line else None) found

-- the good lines that come after those of before, up to the first that is no step
unfoldable pub good_lines : List Line → List (List ℕ) → List Line
good_lines before [] = []
good_lines before (bytes ∷ others) =
    option_map_or (λ line. line ∷ good_lines (before ++ line ∷ []) others) (allowed before (line_of bytes)) []

-- the lines of a script before the first that is no step
unfoldable pub script : List ℕ → List Line
script bytes = good_lines [] (cut bytes)

-- the number, from 1, of the first line that is no step
unfoldable pub bad_line : List ℕ → Option ℕ
bad_line bytes =
    if length (script bytes) == length (cut bytes) then None else Some (length (script bytes) + 1)
