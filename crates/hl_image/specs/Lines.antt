-- A page image as a line of text.
use Rattle.std.specs.Prelude.{ℕ, ◌/◌, ◌%◌, List, [], ◌∷◌, ◌++◌, slice_index, flat_map, codes}

-- a byte as two digits, the high four bits first
abbrev pub digits : ℕ → List ℕ
digits byte =
    slice_index (codes "0123456789abcdef") (byte / 16) ∷ slice_index (codes "0123456789abcdef") (byte % 16)
    ∷ []

-- bytes as digits, in order
abbrev pub hex : List ℕ → List ℕ
hex bytes = flat_map digits bytes

-- the line of an image: the word, a space, the bytes, and the line's end
abbrev pub line_of : List ℕ → List ℕ
line_of bytes = codes "image " ++ hex bytes ++ 10 ∷ []
