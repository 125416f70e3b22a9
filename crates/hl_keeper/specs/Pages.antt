-- Pages that were taken from a keeper, and what riders load and store of them.
use Rattle.std.specs.Prelude.{ℕ, unwrap_or, List}
use Rattle.hl_model.specs.declared.step.Step.{Step}
use Rattle.hl_model.specs.Sizes.{Sizes}
use Rattle.hl_model.specs.Pages.{next_to_flush, next_to_clean}
pub use Rattle.hl_words.specs.Cells.{first_cell}
unfoldable pub use Rattle.hl_words.specs.Views.{zeroed, loaded_all}
use Rattle.hl_keeper.specs.declared.load.PageJob.{PageJob}

-- a page that was taken to be cleaned, and how many of its cells were swept
pub record BroomRecord : Type 0 where
  pub stamp : ℕ
  pub page : ℕ
  pub swept : ℕ

-- the page that a flush take names after A, under this stamp; page 0 where there is none
abbrev pub to_flush : Sizes → ℕ → List Step → PageJob
to_flush sizes stamp A = record { stamp = stamp; page = unwrap_or (next_to_flush sizes A) 0 }

-- the page that a clean take names after A, of which nothing is swept yet; page 0 where there is none
abbrev pub to_clean : Sizes → ℕ → List Step → BroomRecord
to_clean sizes stamp A = record { stamp = stamp; page = unwrap_or (next_to_clean sizes A) 0; swept = 0 }
