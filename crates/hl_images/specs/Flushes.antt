-- A page that riders took to be flushed, copied and answered as flushed. What is said of them stays when they do more.
use Rattle.std.specs.Prelude.{ℕ, ◌≡◌, Ok, List, [], ◌∷◌, true, Some, slice_get, length}
use Rattle.hl_model.specs.declared.step.Step.{Step}
use Rattle.hl_model.specs.declared.step.Step.TheVariants.{FlushTake, FlushDone}
use Rattle.hl_model.specs.Pages.{next_to_flush}
use Rattle.hl_model.specs.Sizes.{Sizes}
use Rattle.hl_words.specs.declared.view.Touch.{Touch}
use Rattle.hl_words.specs.States.{RiderState, with_view}
use Rattle.hl_words.specs.Views.{touched}
use Rattle.hl_keeper.specs.declared.load.PageJob.{PageJob}
use Rattle.hl_keeper.specs.Calls.{Makes}
use Rattle.hl_keeper.specs.Endings.{EndingState}
use Rattle.hl_keeper.specs.Pages.{first_cell, loaded_all, to_flush}
use Rattle.hl_domain.specs.Domains.{DomainState, IsEnding, MakesUnderLock, call_of, with_entry}
use Rattle.hl_images.specs.Images.{IsImaged}
use Rattle.hl_images.specs.Later.{IsLater}

-- A rider took the page by a call that met this list, and then loaded these words, as many as a page has, from the page's
-- cells. It may have done more in between, and since
pub record HasCopied (sizes : Sizes) (page : ℕ) (image : List ℕ) (list : List Step) (r : RiderState)
    : Type 0 where
  pub taken : next_to_flush sizes list ≡ Some page
  pub places : length image ≡ sizes.page_size
  pub before : RiderState
  pub was : ℕ
  pub now : ℕ
  pub copying : RiderState
  pub take : IsLater (with_entry was now list (FlushTake ∷ []) before) copying
  pub copy : IsLater (with_view (loaded_all (first_cell sizes page) image copying.view) copying) r

-- And then it answered the page as flushed, by a call that met the later list. It may have done more since
pub record HasFlushed (sizes : Sizes) (page : ℕ) (image : List ℕ) (r : RiderState) : Type 0 where
  pub list : List Step
  pub later : List Step
  pub answering : RiderState
  pub had : ℕ
  pub has : ℕ
  pub copied : HasCopied sizes page image list answering
  pub done : IsLater (with_entry had has later (FlushDone page true ∷ []) answering) r

-- A later state of a rider is one of a state before
pub record LaterStates : Type 0 where
  pub same : (r : RiderState) → IsLater r r
  pub still : (old mid new : RiderState) → IsLater old mid → IsLater mid new → IsLater old new
  pub touch : (t : Touch) (r : RiderState) → IsLater r (with_view (touched t r.view) r)
  pub loads : (cell : ℕ) (words : List ℕ) (r : RiderState)
      → IsLater r (with_view (loaded_all cell words r.view) r)
  pub call : (was now : ℕ) (list steps : List Step) (r : RiderState)
      → IsLater r (with_entry was now list steps r)

-- A rider that made an accepted flush take, and then loaded as many words as a page has from the page's cells, has copied
-- the page
abbrev pub TakenIsCopied : Type 0 → Type 0
TakenIsCopied F = (domain : DomainState) (old mid new : RiderState) (load : PageJob) (image : List ℕ)
    → MakesUnderLock F domain (call_of FlushTake old mid) (Ok load)
    (λ keeper. Makes keeper FlushTake (λ A. to_flush keeper.core.sizes keeper.stamp A))
    → length image ≡ domain.sizes.page_size
    → new ≡ with_view (loaded_all (first_cell domain.sizes load.page) image mid.view) mid
    → (list : List Step) × HasCopied domain.sizes load.page image list new

-- If it then made an accepted flush done of the page, as of one that was written, it has flushed it
abbrev pub AnsweredIsFlushed : Type 0
AnsweredIsFlushed = (sizes : Sizes) (page had has : ℕ) (image : List ℕ) (list later : List Step)
    (old new : RiderState) → HasCopied sizes page image list old
    → new ≡ with_entry had has later (FlushDone page true ∷ []) old → HasFlushed sizes page image new

-- What a rider copied, it has copied whatever it does more
abbrev pub CopiedStays : Type 0
CopiedStays = (sizes : Sizes) (page : ℕ) (image : List ℕ) (list : List Step) (old new : RiderState)
    → HasCopied sizes page image list old → IsLater old new → HasCopied sizes page image list new

-- What a rider flushed, it has flushed whatever it does more
abbrev pub FlushedStays : Type 0
FlushedStays = (sizes : Sizes) (page : ℕ) (image : List ℕ) (old new : RiderState)
    → HasFlushed sizes page image old → IsLater old new → HasFlushed sizes page image new

-- What a rider of a domain flushed is an image at the domain's end
abbrev pub FlushedIsImaged : Type 0 → Type 0
FlushedIsImaged F = (sizes : Sizes) (riders : List RiderState) (ending : EndingState F) (i page : ℕ)
    (image : List ℕ) (r : RiderState) → IsEnding sizes riders ending → slice_get riders i ≡ Some r
    → HasFlushed sizes page image r → IsImaged sizes riders ending page image
