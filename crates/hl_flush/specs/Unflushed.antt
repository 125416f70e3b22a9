-- The pages that wait to be flushed, and the lines of their images.
use Rattle.std.specs.Prelude.{ℕ, ◌||◌, not, List, filter, flat_map}
use Rattle.std.specs.List.{range_with_len}
use Rattle.hl_model.specs.declared.step.Step.{Step}
use Rattle.hl_model.specs.Sizes.{Sizes}
use Rattle.hl_model.specs.Settled.{safe_read_only, pages_below}
use Rattle.hl_model.specs.Pages.{is_flushed, is_in_flight}
use Rattle.hl_model.specs.Words.{page_words}
use Rattle.hl_image.specs.Image.{image}
use Rattle.hl_image.specs.Lines.{line_of}

-- the sealed pages that are neither flushed nor in flight, in ascending order
unfoldable pub unflushed : Sizes → List Step → List ℕ
unflushed sizes A =
    filter (λ p. not (is_flushed sizes p A || is_in_flight sizes p A))
    (range_with_len 0 (pages_below sizes (safe_read_only A)))

-- the lines of their images, in that order
unfoldable pub image_lines : Sizes → List Step → List ℕ
image_lines sizes A = flat_map (λ p. line_of (image p (page_words sizes p A))) (unflushed sizes A)
