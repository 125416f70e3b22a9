-- What the cells of an engine hold. Page p lies in frame p mod F, so its words are P cells in a row.
use Rattle.std.specs.Prelude.{ℕ, ◌+◌, ◌*◌, ◌/◌, ◌%◌, Option, Some, None, List, map}
use Rattle.std.specs.List.{range_with_len}
use Rattle.hl_model.specs.declared.step.Step.{Step}
use Rattle.hl_model.specs.Sizes.{Sizes}
use Rattle.hl_model.specs.Frames.{frame_of}
use Rattle.hl_model.specs.Words.{word}

-- the page that frame f shows: its last entered page; None where the frame is free
abbrev pub shown_page : Sizes → ℕ → List Step → Option ℕ
shown_page sizes f A = (frame_of sizes f A).1

-- the k-th word of a page, and 0 where there is none
abbrev pub word_of_page : Sizes → List Step → ℕ → Option ℕ → ℕ
word_of_page sizes A k None = 0
word_of_page sizes A k (Some p) = word (p * sizes.page_size + k) A

-- what cell c holds: its word of the page that its frame shows
unfoldable pub cell_word : Sizes → List Step → ℕ → ℕ
cell_word sizes A c = word_of_page sizes A (c % sizes.page_size) (shown_page sizes (c / sizes.page_size) A)

-- what all cells hold, frame by frame
unfoldable pub cell_words : Sizes → List Step → List ℕ
cell_words sizes A = map (cell_word sizes A) (range_with_len 0 (sizes.frames * sizes.page_size))

-- the cell of address a
abbrev pub cell_at : Sizes → ℕ → ℕ
cell_at sizes a = a / sizes.page_size % sizes.frames * sizes.page_size + a % sizes.page_size
