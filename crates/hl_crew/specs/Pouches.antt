-- A pouch, and what an answer through it did.
use Rattle.std.specs.Prelude.{◌≡◌, ℕ, ◌==◌, Bool, false, Option, Some, None, Result, MatchResult, List, position, count_by, is_none, is_some, slice_get, slice_set}
use Rattle.hl_model.specs.declared.fault.Fault.{Fault}
use Rattle.hl_keeper.specs.declared.load.PageJob.{PageJob}

-- whether a place holds a load of this page
abbrev pub is_of : ℕ → Option PageJob → Bool
is_of page None = false
is_of page (Some job) = job.page == page

-- how many loads some places hold
abbrev pub load_count : List (Option PageJob) → ℕ
load_count places = count_by is_some places

-- a load was put into the first place that holds none
abbrev pub Puts : PageJob → List (Option PageJob) → List (Option PageJob) → Type 0
Puts load old new = (at : ℕ) × (position is_none old ≡ Some at) × (new ≡ slice_set old at (Some load))

-- the load in place `at`, which is of this page, was answered as this says of its stamp: it has left the
-- pouch, or nothing has changed there
pub record Answers
    (page at : ℕ) (old new : List (Option PageJob)) (result : Result ℕ Fault) (Met : ℕ → Type 0)
    : Type 0 where
  pub job : PageJob
  pub held : slice_get old at ≡ Some (Some job)
  pub page_is : job.page ≡ page
  pub met : Met job.stamp
  pub left : MatchResult result (λ _. new ≡ slice_set old at None) (λ _. new ≡ old)
