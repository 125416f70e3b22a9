-- A page that one rider took to be flushed and answered as flushed, and another copied for it. What is said of the two
-- stays when they do more.
use Rattle.std.specs.Prelude.{ℕ, ◌≡◌, Result, Ok, Err, List, [], ◌∷◌, true, Some, slice_get, length}
use Rattle.hl_model.specs.declared.fault.Fault.{Fault}
use Rattle.hl_model.specs.declared.step.Step.{Step}
use Rattle.hl_model.specs.declared.step.Step.TheVariants.{FlushTake, FlushDone}
use Rattle.hl_model.specs.Pages.{next_to_flush}
use Rattle.hl_model.specs.Sizes.{Sizes}
use Rattle.hl_words.specs.declared.view.Known.{Known}
use Rattle.hl_words.specs.States.{RiderState, with_view}
use Rattle.hl_words.specs.Views.{past_of, told}
use Rattle.hl_keeper.specs.Endings.{EndingState}
use Rattle.hl_keeper.specs.Pages.{first_cell, loaded_all}
use Rattle.hl_domain.specs.Domains.{IsEnding, with_entry}
use Rattle.hl_images.specs.Images.{IsImaged}
use Rattle.hl_images.specs.Later.{IsLater}

-- a take's answer without the past that is handed out beside it
abbrev pub without_past : {X Y : Type 0} → Result (X × Y) Fault → Result X Fault
without_past (Ok taken) = Ok taken.0
without_past (Err fault) = Err fault

-- The rider took the page by a call that met this list. It may have done more since
pub record HasTaken (sizes : Sizes) (page : ℕ) (list : List Step) (r : RiderState) : Type 0 where
  pub taken : next_to_flush sizes list ≡ Some page
  pub before : RiderState
  pub was : ℕ
  pub now : ℕ
  pub take : IsLater (with_entry was now list (FlushTake ∷ []) before) r

-- The rider was told this past, and then loaded these words, as many as a page has, from the page's cells. It may have
-- done more in between, and since
pub record HasCopiedTold (sizes : Sizes) (page : ℕ) (image : List ℕ) (past : Known) (r : RiderState)
    : Type 0 where
  pub places : length image ≡ sizes.page_size
  pub asked : RiderState
  pub copying : RiderState
  pub tell : IsLater (with_view (told past asked.view) asked) copying
  pub copy : IsLater (with_view (loaded_all (first_cell sizes page) image copying.view) copying) r

-- The flusher took the page, the copier was told its past and copied the page, the flusher was told the copier's past, and
-- answered the page as flushed by a call that met the later list. Both may have done more in between, and since
pub record HaveFlushed (sizes : Sizes) (page : ℕ) (image : List ℕ) (flusher copier : RiderState)
    : Type 0 where
  pub list : List Step
  pub later : List Step
  pub taking : RiderState
  pub take : HasTaken sizes page list taking
  pub telling : RiderState
  pub copy : HasCopiedTold sizes page image (past_of taking.view) telling
  pub since : IsLater telling copier
  pub waiting : RiderState
  pub wait : IsLater taking waiting
  pub answering : RiderState
  pub tell : IsLater (with_view (told (past_of telling.view) waiting.view) waiting) answering
  pub had : ℕ
  pub has : ℕ
  pub done : IsLater (with_entry had has later (FlushDone page true ∷ []) answering) flusher

-- What two riders flushed, they have flushed whatever they do more
abbrev pub FlushedByTwoStays : Type 0
FlushedByTwoStays = (sizes : Sizes) (page : ℕ) (image : List ℕ) (flusher copier f c : RiderState)
    → HaveFlushed sizes page image flusher copier → IsLater flusher f → IsLater copier c
    → HaveFlushed sizes page image f c

-- What two riders of a domain flushed is an image at the domain's end
abbrev pub FlushedByTwoIsImaged : Type 0 → Type 0
FlushedByTwoIsImaged F = (sizes : Sizes) (riders : List RiderState) (ending : EndingState F)
    (i k page : ℕ) (image : List ℕ) (flusher copier : RiderState)
    → IsEnding sizes riders ending → slice_get riders i ≡ Some copier → slice_get riders k ≡ Some flusher
    → HaveFlushed sizes page image flusher copier → IsImaged sizes riders ending page image
