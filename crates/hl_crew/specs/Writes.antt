-- What a writer did to a page that it tells as written, or as failed.
use Rattle.std.specs.Prelude.{◌≡◌, ℕ, ◌⊎◌, List, length}
use Rattle.hl_image.specs.Failures.{one_more}
use Rattle.hl_model.specs.Sizes.{Sizes}
use Rattle.hl_image.specs.Image.{image}
use Rattle.hl_words.specs.States.{RiderState, with_view}
use Rattle.hl_keeper.specs.declared.load.PageJob.{PageJob}
use Rattle.hl_keeper.specs.Pages.{first_cell, loaded_all}

-- some words, as many as a page has, were loaded from the page's cells, and the page's image of them was
-- written
pub record IsWritten
    {W : Type 0} (wrote : W → ℕ → List ℕ → W → Type 0) (sizes : Sizes) (job : PageJob)
    (old new : RiderState) (before after : W)
    : Type 0 where
  pub words : List ℕ
  pub places : length words ≡ sizes.page_size
  pub loaded : new ≡ with_view (loaded_all (first_cell sizes job.page) words old.view) old
  pub written : wrote before job.page (image job.page words) after

-- nothing was done; or some words were loaded from the page's cells, and the write of the page's image of
-- them failed, and was counted as that
abbrev pub IsNotWritten : {W : Type 0} → (W → ℕ → List ℕ → W → Type 0) → (W → ℕ) → Sizes → PageJob
    → RiderState → RiderState → W → W → Type 0
IsNotWritten failed failures sizes job old new before after =
    ((new ≡ old) × (after ≡ before))
    ⊎ ((failures after ≡ one_more (failures before)) × IsWritten failed sizes job old new before after)
