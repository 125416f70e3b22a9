-- What lies in a log's words, one piece behind the other.
use Rattle.std.specs.Prelude.{ℕ, Option, option_to_list, ◌≡◌, ◌≢◌, ◌+◌, ◌-◌, ◌/◌, ◌<◌, ◌≤◌, ◌^◌, List, [], ◌∷◌, ◌++◌, length, take, drop, get_or, map}
use Rattle.std.specs.List.{AllByRecursion, flat_map}
use Rattle.example_layout.specs.Image.{eight_bytes}
use Rattle.example_layout.specs.declared.bad.Bad.{Bad}
use Rattle.example_layout.specs.declared.bad.Bad.TheVariants.{Empty, Long, End}
use Rattle.example_layout.specs.declared.bad.Trouble.{Trouble}
use Rattle.example_layout.specs.declared.bad.Trouble.TheVariants.{OutOfMemory, Broken}
use Rattle.example_layout.specs.declared.entry.Entry.{Entry}
use Rattle.example_layout.specs.Layout.{ended, row, row_length, AreBytes, AreWords}

-- one word of 0, a record of these bytes, a dead one, or the words of one whose append was refused midway
pub data Piece : Type 0 where
  Hole : Piece
  Live : List ℕ → Piece
  Dead : List ℕ → Piece
  Refused : List ℕ → Piece

-- the words of each
abbrev pub words_of : Piece → List ℕ
words_of Hole = 0 ∷ []
words_of (Live bytes) = row 0 bytes
words_of (Dead bytes) = row 1 bytes
words_of (Refused words) = words

-- what a record's bytes may be
abbrev pub MayBe : List ℕ → Type 0
MayBe bytes = (0 < length bytes) × (length bytes < 2 ^ 63) × AreBytes bytes

-- a record of which the header was stored, and the last word wasn't
pub record IsRefused (words : List ℕ) : Type 0 where
  pub some : 2 ≤ get_or words 0 0
  pub long : length words ≡ row_length (get_or words 0 0)
  pub last : get_or words (length words - 1) 0 ≡ 0
  pub numbers : AreWords words

-- there may be such a piece
abbrev pub IsFine : Piece → Type 0
IsFine Hole = Unit {0}
IsFine (Live bytes) = MayBe bytes
IsFine (Dead bytes) = MayBe bytes
IsFine (Refused words) = IsRefused words

-- such pieces, and their words, one behind the other
abbrev pub AreFine : List Piece → Type 0
AreFine pieces = AllByRecursion IsFine pieces

abbrev pub laid : List Piece → List ℕ
laid pieces = flat_map words_of pieces

-- the live record that a piece at this address is
abbrev pub live_at : ℕ → Piece → List (ℕ × List ℕ)
live_at a Hole = []
live_at a (Live bytes) = (a, bytes) ∷ []
live_at a (Dead bytes) = []
live_at a (Refused words) = []

-- the live ones of pieces from this address on, each with its address
abbrev pub live_from : ℕ → List Piece → List (ℕ × List ℕ)
live_from a [] = []
live_from a (piece ∷ pieces) = live_at a piece ++ live_from (a + length (words_of piece)) pieces

-- entries as such pairs
abbrev pub rows_of : List Entry → List (ℕ × List ℕ)
rows_of entries = map (λ e. (e.address, e.bytes.items)) entries

-- From one place in these words to another they are laid out as pieces, and these are the live ones; the first word of all
-- has the address `base`
pub record Yields (base : ℕ) (words : List ℕ) (from to : ℕ) (live : List (ℕ × List ℕ)) : Type 0 where
  pub pieces : List Piece
  pub fine : AreFine pieces
  pub there : drop from words ≡ laid pieces ++ drop to words
  pub ends : to ≡ from + length (laid pieces)
  pub are : live ≡ live_from (base + from) pieces

-- no piece begins there, and why
abbrev pub IsBad : Bad → List ℕ → Type 0
IsBad Empty rest = get_or rest 0 0 ≡ 1
IsBad Long rest = (2 ≤ get_or rest 0 0) × (length rest < row_length (get_or rest 0 0))
IsBad End rest = let header = get_or rest 0 0 in let long = row_length header in
    (2 ≤ header) × (long ≤ length rest) × (get_or rest (long - 1) 0 ≢ 0)
    × ((bytes : List ℕ) → length bytes ≡ header / 2 → flat_map eight_bytes (take (long - 1) (drop 1 rest)) ≢ ended bytes)

-- such a piece begins there, of so many words; a live one has these bytes
pub record IsPieceAt (rest : List ℕ) (count : ℕ) (live : Option (List ℕ)) : Type 0 where
  pub piece : Piece
  pub fine : IsFine piece
  pub there : rest ≡ words_of piece ++ drop count rest
  pub long : length (words_of piece) ≡ count
  pub are : (a : ℕ) → live_at a piece ≡ map (λ bytes. (a, bytes)) (option_to_list live)

-- memory was refused, or no piece begins there
abbrev pub IsTroubleAt : Trouble → List ℕ → Type 0
IsTroubleAt OutOfMemory rest = Unit {0}
IsTroubleAt (Broken bad) rest = IsBad bad rest

-- the live records between two places in these words were put behind those that were there
abbrev pub IsGathered : ℕ → List ℕ → ℕ → ℕ → List Entry → List Entry → Type 0
IsGathered base words from to old new = (live : List (ℕ × List ℕ)) × Yields base words from to live
    × (rows_of new ≡ rows_of old ++ live)

-- memory was refused; or they were, and no piece begins behind them
abbrev pub IsStopped : ℕ → List ℕ → ℕ → ℕ → List Entry → List Entry → Trouble → Type 0
IsStopped base words from to old new OutOfMemory = Unit {0}
IsStopped base words from to old new (Broken bad) = IsGathered base words from to old new × (to < length words)
    × IsBad bad (drop to words)
