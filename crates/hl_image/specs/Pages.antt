-- A writer in memory as callers see it: an image or none for each page, and the counts.
use Rattle.std.specs.Prelude.{ℕ, ◌≡◌, ◌+◌, ◌-◌, ◌^◌, ◌==◌, ◌||◌, nat_le, not, min, Bool, true, false, Option, Some, None, List, replicate, length, slice_get, slice_set}
use Rattle.std.specs.Option.{option_flatten}
use Rattle.hl_image.specs.Failures.{one_more}

-- a place for an image of so many bytes, and the image in it
pub record Place : Type 0 where
  pub size : ℕ
  pub image : Option (List ℕ)

-- the images by page, the bytes of each, the writes so far, the write that is to fail (0: none), and the
-- failures
pub record Pages : Type 0 where
  pub images : List (Option (List ℕ))
  pub size : ℕ
  pub writes : ℕ
  pub fails_at : ℕ
  pub failures : ℕ

-- so many pages of so many bytes: none is written, and no write is to fail
abbrev pub opened : ℕ → ℕ → Pages
opened pages bytes =
    record { images = replicate pages None; size = bytes; writes = 0; fails_at = 0; failures = 0 }

-- the image of a page; none beyond the last page
abbrev pub image_at : ℕ → Pages → Option (List ℕ)
image_at page pages = option_flatten (slice_get pages.images page)

-- the writes with one more; the count stays at the last number
abbrev pub next_writes : Pages → ℕ
next_writes pages = min (pages.writes + 1) (2 ^ 64 - 1)

-- whether a write fails: it is the one that is to fail, there is no such page, or it hasn't as many bytes as
-- an image
abbrev pub is_refused : Pages → ℕ → ℕ → Bool
is_refused pages page len =
    pages.writes + 1 == pages.fails_at || nat_le (length pages.images) page || not (len == pages.size)

-- the write was not to fail; the page's image is these bytes, and the others are as before
pub record IsStored (before : Pages) (page : ℕ) (bytes : List ℕ) (after : Pages) : Type 0 where
  pub accepted : is_refused before page (length bytes) ≡ false
  pub changed : after
      ≡ record before { images = slice_set before.images page (Some bytes); writes = next_writes before }

-- the write was to fail; each image is as before
pub record IsRefused (before : Pages) (page : ℕ) (bytes : List ℕ) (after : Pages) : Type 0 where
  pub refused : is_refused before page (length bytes) ≡ true
  pub changed : after ≡ record before { writes = next_writes before; failures = one_more before.failures }
