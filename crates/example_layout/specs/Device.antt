-- A file of pages: their images, one behind the other.
use Rattle.std.specs.Prelude.{ℕ, ◌≡◌, ◌≢◌, ◌+◌, ◌*◌, ◌<◌, List, [], ◌∷◌, ◌++◌, length, take, drop}
use Rattle.std.specs.List.{AllByRecursion, flat_map}
use Rattle.byteorder.specs.Endian.{big_number}
use Rattle.example_layout.specs.Image.{eight_bytes, image}
use Rattle.example_layout.specs.declared.bad.BadPage.{BadPage}
use Rattle.example_layout.specs.declared.bad.BadPage.TheVariants.{Length, Number, Record}
use Rattle.example_layout.specs.declared.entry.Entry.{Entry}
use Rattle.example_layout.specs.declared.bad.Unreadable.{Unreadable}
use Rattle.example_layout.specs.declared.bad.Unreadable.TheVariants.{OutOfMemory, Page}
use Rattle.example_layout.specs.Layout.{AreWords}
use Rattle.example_layout.specs.Pieces.{laid, rows_of, live_from, AreFine, IsBad, Piece, Yields}

-- the images of pages of such pieces, from page k on
abbrev pub images_from : ℕ → List (List Piece) → List ℕ
images_from k [] = []
images_from k (page ∷ pages) = image k (laid page) ++ images_from (k + 1) pages

-- each page is full of such pieces
abbrev pub ArePages : ℕ → List (List Piece) → Type 0
ArePages page_size pages = AllByRecursion (λ page. AreFine page × (length (laid page) ≡ page_size)) pages

-- the live records of pages from page k on
abbrev pub live_in : ℕ → ℕ → List (List Piece) → List (ℕ × List ℕ)
live_in page_size k [] = []
live_in page_size k (page ∷ pages) = live_from (k * page_size) page ++ live_in page_size (k + 1) pages

-- why these bytes don't begin with an image of page k: they are too few, they begin with another number, or behind good
-- pieces no piece begins
abbrev pub IsBadPage : ℕ → ℕ → List ℕ → BadPage → Type 0
IsBadPage page_size k rest Length = length rest < 8 + 8 * page_size
IsBadPage page_size k rest (Number number) = (number ≡ big_number 8 rest) × (number ≢ k)
IsBadPage page_size k rest (Record address bad) = (words : List ℕ) × (at : ℕ) × (live : List (ℕ × List ℕ))
    × (length words ≡ page_size) × AreWords words × (take (8 * page_size) (drop 8 rest) ≡ flat_map eight_bytes words)
    × Yields (k * page_size) words 0 at live × (address ≡ k * page_size + at) × IsBad bad (drop at words)

-- these bytes begin with the image of a full page of pieces, whose live records were put behind those that were there
abbrev pub IsPage : ℕ → ℕ → List ℕ → List Entry → List Entry → Type 0
IsPage page_size k rest old new = (page : List Piece) × AreFine page × (length (laid page) ≡ page_size)
    × (rest ≡ image k (laid page) ++ drop (8 + 8 * page_size) rest)
    × (rows_of new ≡ rows_of old ++ live_from (k * page_size) page)

-- memory was refused, or the page is bad
abbrev pub IsRefusedPage : ℕ → ℕ → List ℕ → Unreadable → Type 0
IsRefusedPage page_size k rest OutOfMemory = Unit {0}
IsRefusedPage page_size k rest (Page number bad) = (number ≡ k) × IsBadPage page_size k rest bad

-- memory was refused; or behind good pages this one isn't, and why
abbrev pub IsUnreadable : ℕ → List ℕ → Unreadable → Type 0
IsUnreadable page_size bytes OutOfMemory = Unit {0}
IsUnreadable page_size bytes (Page k bad) = (pages : List (List Piece)) × (rest : List ℕ) × ArePages page_size pages
    × (length pages ≡ k) × (bytes ≡ images_from 0 pages ++ rest) × (0 < length rest) × IsBadPage page_size k rest bad
