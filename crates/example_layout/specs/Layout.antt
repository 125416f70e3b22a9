-- How a record of bytes lies in words.
use Rattle.std.specs.Prelude.{ℕ, zero, suc, ◌+◌, ◌-◌, ◌*◌, ◌/◌, ◌%◌, ◌<◌, ◌^◌, List, [], ◌∷◌, ◌++◌, length, take, drop, get_or}
use Rattle.byteorder.specs.Endian.{big_number}

-- each is a byte
abbrev pub AreBytes : List ℕ → Type 0
AreBytes bytes = (k : ℕ) → get_or bytes k 0 < 2 ^ 8

-- a record's bytes and their end: a byte 1, and zeros up to the end of a word
abbrev pub ended : List ℕ → List ℕ
ended bytes = bytes ++ take (8 - length bytes % 8) (1 ∷ 0 ∷ 0 ∷ 0 ∷ 0 ∷ 0 ∷ 0 ∷ 0 ∷ [])

-- so many words of these bytes, eight to a word, the most significant first
abbrev pub packed : ℕ → List ℕ → List ℕ
packed zero bytes = []
packed (suc n) bytes = big_number 8 bytes ∷ packed n (drop 8 bytes)

-- the words of a record: its header, the number of its bytes doubled and with its mark, 0 or 1 if it is dead; then its bytes
-- with their end
abbrev pub row : ℕ → List ℕ → List ℕ
row mark bytes = (2 * length bytes + mark) ∷ packed (length bytes / 8 + 1) (ended bytes)

-- how many words a record of such a header has
abbrev pub row_length : ℕ → ℕ
row_length header = header / 16 + 2

-- each is a word
abbrev pub AreWords : List ℕ → Type 0
AreWords words = (k : ℕ) → get_or words k 0 < 2 ^ 64
