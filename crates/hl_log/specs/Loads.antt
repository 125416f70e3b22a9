-- What a pass's rider did that loaded several words, one after another.
use Rattle.std.specs.Prelude.{ℕ, ◌+◌, ◌≤◌, List, [], ◌∷◌}
use Rattle.hl_model.specs.Sizes.{Sizes}
use Rattle.hl_words.specs.declared.view.RiderView.{RiderView}
use Rattle.hl_words.specs.declared.which.Which.TheVariants.{ReadOnly, Head, Ended}
use Rattle.hl_words.specs.Cells.{cell_at}
use Rattle.hl_words.specs.Views.{loaded, with_loaded, looked, greatest_of}
use Rattle.hl_pass.specs.declared.news.News.{News}

-- the words from an address on, each from its cell
abbrev pub loaded_row : Sizes → ℕ → List ℕ → RiderView → RiderView
loaded_row sizes a [] r = r
loaded_row sizes a (w ∷ ws) r = loaded_row sizes (a + 1) ws (loaded (cell_at sizes a) w r)

-- all three words that tell of something new
abbrev pub loaded_news : News → RiderView → RiderView
loaded_news news r =
    with_loaded Ended news.ended (with_loaded Head news.head (with_loaded ReadOnly news.read_only r))

-- none of the three is less than what the rider loaded of its word before
abbrev pub IsLaterNews : News → RiderView → Type 0
IsLaterNews news r =
    (greatest_of ReadOnly (looked r.touches) ≤ news.read_only)
    × (greatest_of Head (looked r.touches) ≤ news.head)
    × (greatest_of Ended (looked r.touches) ≤ news.ended)
