-- What the copy of a flushed page holds at a domain's end.
use Rattle.std.specs.Prelude.{ℕ, ◌≡◌, ◌+◌, List, [], ◌∷◌, ◌++◌, true, Some, slice_get, length, map}
use Rattle.hl_model.specs.declared.step.Step.{Step}
use Rattle.hl_model.specs.declared.step.Step.TheVariants.{FlushTake, FlushDone}
use Rattle.hl_model.specs.Pages.{next_to_flush}
use Rattle.hl_model.specs.Sizes.{Sizes}
use Rattle.hl_history.specs.Lists.{Begins}
use Rattle.hl_words.specs.declared.view.RiderView.{RiderView}
use Rattle.hl_words.specs.Rule.{TouchBy}
use Rattle.hl_words.specs.Past.{IsLoad, HasCalls, HasNoCalls}
use Rattle.hl_words.specs.States.{RiderState}
use Rattle.hl_keeper.specs.Endings.{EndingState}
use Rattle.hl_keeper.specs.Pages.{first_cell}
use Rattle.hl_domain.specs.Domains.{IsEnding}

-- Each of these words is what the newest store left in its cell that stands in the one order before the i-th rider's load
-- of it: among what stands there are all that riders did before calls that left fewer steps than `begun`, and nothing
-- that they did after calls that met more than `done`. The cells stand in a row
abbrev pub IsImage : List RiderView → List TouchBy → ℕ → ℕ → ℕ → ℕ → List ℕ → Type 0
IsImage riders order i cell begun done image = (n v : ℕ) → slice_get image n ≡ Some v
    → (before : List TouchBy) × IsLoad order i (cell + n) v before × HasCalls riders begun before
    × HasNoCalls riders done before

-- At a domain's end these words, as many as a page has, are an image of the page: it was taken to be flushed and
-- answered as flushed, each at its place in the one list, and a rider loaded the words of its cells between the two
pub record IsImaged
    {F : Type 0} (sizes : Sizes) (riders : List RiderState) (ending : EndingState F) (page : ℕ)
    (image : List ℕ)
    : Type 0 where
  pub ends : IsEnding sizes riders ending
  pub list : List Step
  pub later : List Step
  pub taken : next_to_flush sizes list ≡ Some page
  pub take : Begins (list ++ FlushTake ∷ []) (ends.steps_cut ++ ending.journal)
  pub done : Begins (later ++ FlushDone page true ∷ []) (ends.steps_cut ++ ending.journal)
  pub copier : ℕ
  pub places : length image ≡ sizes.page_size
  pub words : IsImage (map (λ r. r.view) riders) ends.ruled.rule.order.0 copier (first_cell sizes page)
      (length list + 1) (length later) image
