-- Which cells the words of a log have.
use Rattle.std.specs.Prelude.{ℕ, ◌+◌, ◌*◌, ◌/◌, ◌%◌}
use Rattle.hl_model.specs.Sizes.{Sizes}

-- the cell of address a: page p lies in frame p mod F
abbrev pub cell_at : Sizes → ℕ → ℕ
cell_at sizes a = a / sizes.page_size % sizes.frames * sizes.page_size + a % sizes.page_size

-- the first cell of page p
abbrev pub first_cell : Sizes → ℕ → ℕ
first_cell sizes p = p % sizes.frames * sizes.page_size
