-- What was done to a page before the head passed it.
use Rattle.std.specs.Prelude.{ℕ, ◌≡◌, ◌<◌, ◌/◌, true, Some, List, map, slice_get}
use Rattle.hl_model.specs.declared.step.Step.{Step}
use Rattle.hl_model.specs.Offsets.{head}
use Rattle.hl_model.specs.Replies.{IsAccepted}
use Rattle.hl_model.specs.Sizes.{Sizes}
use Rattle.hl_history.specs.Lists.{IsOneList}
use Rattle.hl_words.specs.declared.which.Which.TheVariants.{Head}
use Rattle.hl_words.specs.States.{RiderState}
use Rattle.hl_words.specs.Views.{greatest_of, looked}
use Rattle.hl_keeper.specs.Endings.{EndingState}
use Rattle.hl_domain.specs.Domains.{IsEnding}
use Rattle.hl_crew.specs.Riders.{has_flushed}

-- the page of an address below the head was answered as flushed, by a call of one of the riders that made the list
abbrev pub EvictedWereFlushed : Type 0
EvictedWereFlushed =
    (sizes : Sizes) (list : List Step) (riders : List RiderState) (a : ℕ)
    → IsAccepted sizes list → IsOneList list (map (λ r. r.calls) riders) → a < head list
    → (i : ℕ) × (r : RiderState)
    × (slice_get riders i ≡ Some r) × (has_flushed (a / sizes.page_size) r.calls ≡ true)

-- so was the page of an address below a head that a rider loaded
abbrev pub LoadedEvictedWereFlushed : Type 0 → Type 0
LoadedEvictedWereFlushed F =
    (sizes : Sizes) (riders : List RiderState) (ending : EndingState F) (j : ℕ) (q : RiderState) (a : ℕ)
    → IsEnding sizes riders ending → slice_get riders j ≡ Some q
    → a < greatest_of Head (looked q.view.touches)
    → (i : ℕ) × (r : RiderState)
    × (slice_get riders i ≡ Some r) × (has_flushed (a / sizes.page_size) r.calls ≡ true)
