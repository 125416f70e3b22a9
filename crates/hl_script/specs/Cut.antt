-- How a script is cut into lines.
use Rattle.std.specs.Prelude.{ℕ, ◌==◌, if◌then◌else◌, List, [], ◌∷◌, take, drop}
use Rattle.hl_model.specs.Lists.{until_last}

-- one byte more in front of the first line
abbrev pub longer : ℕ → List (List ℕ) → List (List ℕ)
longer b [] = (b ∷ []) ∷ []
longer b (line ∷ lines) = (b ∷ line) ∷ lines

-- the lines of a script, each without its LF: it is cut at each byte 10, and what follows the last is a line
-- too where it isn't empty
unfoldable pub cut : List ℕ → List (List ℕ)
cut [] = []
cut (b ∷ bytes) = if b == 10 then [] ∷ cut bytes else longer b (cut bytes)

-- the bytes up to the last LF, with it: the lines that are whole
unfoldable pub whole_lines : List ℕ → List ℕ
whole_lines bytes = take (until_last (λ b. b == 10) bytes) bytes

-- the bytes after the last LF: the line that isn't whole yet
unfoldable pub unfinished_line : List ℕ → List ℕ
unfinished_line bytes = drop (until_last (λ b. b == 10) bytes) bytes
