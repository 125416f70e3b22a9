-- What the words of an image are in that memory.
use Rattle.std.specs.Prelude.{ℕ, ◌≡◌, ◌≢◌, ◌+◌, ◌*◌, ◌%◌, ◌^◌, ◌<◌, ◌⊎◌, List, ◌∷◌, ◌++◌, length, map, Some, slice_get}
use Rattle.std.specs.List.{AllByRecursion, sum}
use Rattle.hl_model.specs.Sizes.{Sizes}
use Rattle.hl_model.specs.Words.{word}
use Rattle.hl_words.specs.declared.view.Touch.{Touch}
use Rattle.hl_words.specs.declared.view.Touch.TheVariants.{Stored}
use Rattle.hl_words.specs.Laws.{AddsUp}
use Rattle.hl_words.specs.Past.{HasCalls, HasNoCalls}
use Rattle.hl_words.specs.Rule.{TouchBy, by_rider, held, touches_of}
use Rattle.hl_words.specs.States.{RiderState}
use Rattle.hl_keeper.specs.Endings.{EndingState}
use Rattle.hl_images.specs.Images.{IsImaged}
use Rattle.hl_images.specs.Writes.{CallsWriteNothing, LastWrites}
use Rattle.hl_memory.specs.Acts.{in_cells, IsPut, NoneOfPages, IsHistory}

-- Each word of the image of a flushed page is what that memory had there at a place of the history that
-- stands behind all that riders did before calls that left less than the page's take, and before all that
-- they did after calls that met more than its done
abbrev pub ImagesAreMemory : Type 0 → Type 0
ImagesAreMemory F = (sizes : Sizes) (riders : List RiderState) (ending : EndingState F) (page k v : ℕ)
    (image : List ℕ) (imaged : IsImaged sizes riders ending page image)
    → let whole = imaged.ends.steps_cut ++ ending.journal
    in let views = map (λ r. r.view) riders
    in 0 < sizes.page_size → 0 < sizes.frames → (history : List TouchBy)
    → IsHistory sizes whole riders imaged.ends.ruled.rule.order.0 history → slice_get image k ≡ Some v
    → (newer : List TouchBy) × (before : List TouchBy) × (history ≡ newer ++ before)
    × (v ≡ held (page * sizes.page_size + k) before)
    × HasCalls views (length imaged.list + 1) (in_cells sizes before)
    × HasNoCalls views (length imaged.later) (in_cells sizes before)

-- And there that memory stays so, but for the 0s of the page's own sweep: behind that place nothing else is
-- stored at the word's address, and that by a rider which flushes or cleans pages
abbrev pub ImagesStay : Type 0 → Type 0
ImagesStay F = (sizes : Sizes) (riders : List RiderState) (ending : EndingState F) (page k : ℕ)
    (image : List ℕ) (imaged : IsImaged sizes riders ending page image)
    → let whole = imaged.ends.steps_cut ++ ending.journal
    in let views = map (λ r. r.view) riders
    in let a = page * sizes.page_size + k
    in 0 < sizes.page_size → 0 < sizes.frames → k < sizes.page_size → (history newer before : List TouchBy)
    → IsHistory sizes whole riders imaged.ends.ruled.rule.order.0 history → history ≡ newer ++ before
    → HasCalls views (length imaged.list + 1) (in_cells sizes before)
    → (j w : ℕ) (act : Touch) (front base : List TouchBy) → newer ≡ front ++ by_rider j act ∷ base
    → IsPut act a w
    → (act ≡ Stored a 0) × (r : RiderState) × (slice_get riders j ≡ Some r) × (NoneOfPages r.calls → ⊥)

-- Where no rider but one wrote at its address, a word of an image is the one list's word there
abbrev pub ImagesAreWords : Type 0 → Type 0
ImagesAreWords F = (sizes : Sizes) (riders : List RiderState) (ending : EndingState F) (page k v j : ℕ)
    (image : List ℕ) (imaged : IsImaged sizes riders ending page image)
    → let whole = imaged.ends.steps_cut ++ ending.journal
    in let a = page * sizes.page_size + k
    in 0 < sizes.page_size → 0 < sizes.frames → (history : List TouchBy)
    → IsHistory sizes whole riders imaged.ends.ruled.rule.order.0 history
    → ((l : ℕ) (q : RiderState) → slice_get riders l ≡ Some q → l ≢ j → CallsWriteNothing a q.calls)
    → slice_get image k ≡ Some v → v ≡ word a whole

-- where nobody wrote there, it is 0
abbrev pub ImagesAreZero : Type 0 → Type 0
ImagesAreZero F = (sizes : Sizes) (riders : List RiderState) (ending : EndingState F) (page k v : ℕ)
    (image : List ℕ) (imaged : IsImaged sizes riders ending page image)
    → let whole = imaged.ends.steps_cut ++ ending.journal
    in 0 < sizes.page_size → 0 < sizes.frames → (history : List TouchBy)
    → IsHistory sizes whole riders imaged.ends.ruled.rule.order.0 history
    → AllByRecursion (λ q. CallsWriteNothing (page * sizes.page_size + k) q.calls) riders
    → slice_get image k ≡ Some v → v ≡ 0

-- where more than one rider wrote there, it is what one of them wrote there last
abbrev pub ImagesAreWrites : Type 0 → Type 0
ImagesAreWrites F = (sizes : Sizes) (riders : List RiderState) (ending : EndingState F) (page k v j : ℕ)
    (image : List ℕ) (r : RiderState) (imaged : IsImaged sizes riders ending page image)
    → let whole = imaged.ends.steps_cut ++ ending.journal
    in let a = page * sizes.page_size + k
    in 0 < sizes.page_size → 0 < sizes.frames → (history : List TouchBy)
    → IsHistory sizes whole riders imaged.ends.ruled.rule.order.0 history
    → slice_get riders j ≡ Some r → ¬ (CallsWriteNothing a r.calls) → slice_get image k ≡ Some v
    → (l : ℕ) × (q : RiderState) × (slice_get riders l ≡ Some q) × LastWrites a v q.calls

-- Where each rider's acts touch the address by loads and adds alone, or its calls write nothing there, a word
-- of an image is the sum of all that was added, modulo 2^64
abbrev pub ImagesAreSumsAnywhere : Type 0 → Type 0
ImagesAreSumsAnywhere F = (sizes : Sizes) (riders : List RiderState) (ending : EndingState F) (page k v : ℕ)
    (image totals : List ℕ) (imaged : IsImaged sizes riders ending page image)
    → let whole = imaged.ends.steps_cut ++ ending.journal
    in let a = page * sizes.page_size + k
    in 0 < sizes.page_size → 0 < sizes.frames → (history : List TouchBy)
    → IsHistory sizes whole riders imaged.ends.ruled.rule.order.0 history
    → slice_get image k ≡ Some v → length totals ≡ length riders
    → ((i total : ℕ) (r : RiderState) → slice_get riders i ≡ Some r → slice_get totals i ≡ Some total
    → AddsUp a total (touches_of i history) ⊎ (CallsWriteNothing a r.calls × (total ≡ 0)))
    → v ≡ sum totals % 2 ^ 64
