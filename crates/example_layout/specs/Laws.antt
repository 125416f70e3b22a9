-- What follows for whoever reads a log's words in another way.
use Rattle.std.specs.Prelude.{ℕ, ◌≡◌, ◌≢◌, ◌==◌, ◌&&◌, ◌-◌, ◌/◌, ◌^◌, ◌<◌, ◌≤◌, Bool, true, false, List, [], ◌∷◌, ◌++◌, length, take, drop, get_or, nat_lt}
use Rattle.std.specs.List.{flat_map}
use Rattle.example_layout.specs.declared.bad.Bad.{Bad}
use Rattle.example_layout.specs.Image.{eight_bytes}
use Rattle.example_layout.specs.Layout.{row, row_length, AreWords}
use Rattle.example_layout.specs.Pieces.{words_of, IsBad, IsFine, MayBe, Piece}

-- A piece is told by its words, whatever lies behind it
abbrev pub PiecesAreTold : Type 0
PiecesAreTold = (p q : Piece) (x y : List ℕ) → IsFine p → IsFine q → words_of p ++ x ≡ words_of q ++ y → p ≡ q

-- Where words are bad, no piece begins
abbrev pub NoneBegins : Type 0
NoneBegins = (bad : Bad) (p : Piece) (x : List ℕ) → IsFine p → IsBad bad (words_of p ++ x) → ⊥

-- a row that begins with a header that says its length, and doesn't end with 0
pub record HasRowEnds (words : List ℕ) : Type 0 where
  pub first : 2 ≤ get_or words 0 0
  pub last : get_or words (length words - 1) 0 ≢ 0
  pub long : length words ≡ row_length (get_or words 0 0)
  pub numbers : AreWords words

-- The words of a record are such a row, and those of a live one tell its bytes
pub record RowsHaveEnds : Type 0 where
  pub ends : (mark : ℕ) (bytes : List ℕ) → mark < 2 → MayBe bytes → HasRowEnds (row mark bytes)
  pub same : (one two : List ℕ) → MayBe one → MayBe two → row 0 one ≡ row 0 two → one ≡ two

-- whether two lists are one
abbrev pub same : List ℕ → List ℕ → Bool
same [] [] = true
same [] (y ∷ ys) = false
same (x ∷ xs) [] = false
same (x ∷ xs) (y ∷ ys) = (x == y) && same xs ys

-- the bytes that a row of words has, by its header
abbrev pub bytes_of : List ℕ → List ℕ
bytes_of words = take (get_or words 0 0 / 2) (flat_map eight_bytes (drop 1 words))

-- whether these are the words of a live record: the test that the laws of a log take for its records
abbrev pub is_row : List ℕ → Bool
is_row words = (nat_lt 0 (length (bytes_of words)) && nat_lt (length (bytes_of words)) (2 ^ 63))
    && same words (row 0 (bytes_of words))

-- It is true of just the words of live records
pub record RowsAreTested : Type 0 where
  pub told : (words : List ℕ) → is_row words ≡ true → (bytes : List ℕ) × MayBe bytes × (words ≡ row 0 bytes)
  pub are : (bytes : List ℕ) → MayBe bytes → is_row (row 0 bytes) ≡ true
