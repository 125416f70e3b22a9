-- The frames of an accepted list know which pages are flushed, in flight, freed and being cleaned.
use Rattle.std.proofs.Common.{◌≡◌, ℕ, ◌+◌, ◌-◌, ◌*◌, ◌/◌, ◌<◌, ◌≤◌, Bool, true, false, cond, not, ◌||◌, ltb, List, ap, ap₂, ◌∙◌, arith}
use Rattle.std.specs.List.{range_with_len}
use Rattle.std.proofs.lemmas.Bool.{both_ways, false_from_ne_true}
use Rattle.hl_model.specs.declared.step.Step.{Step}
use Rattle.hl_model.specs.Sizes.{Sizes, AreInRange}
use Rattle.hl_model.specs.Offsets.{is_entered}
use Rattle.hl_model.specs.Settled.{safe_read_only, closed}
use Rattle.hl_model.specs.Pages.{is_flushed, is_in_flight, is_freed, is_cleaning, next_page, next_to_flush, next_to_clean}
use Rattle.hl_model.specs.Frames.{may_enter}
use Rattle.hl_model.specs.Snapshots.{six, AreInOrder}
use Rattle.hl_model.specs.Replies.{IsAccepted}
use Rattle.hl_laws.proofs.AppendLaws.{find-same}
use Rattle.hl_laws.proofs.CutRows.{flushed_in-is, freed_in-is, in_flight_in-is, cleaning_in-is}
use Rattle.hl_laws.proofs.PageFacts.{PagesKept, pages_kept}
use Rattle.hl_laws.proofs.OrderLaws.{offsets_are_in_order}
use Rattle.hl_laws.proofs.FrameFacts.{sealed_entered}
use Rattle.hl_frames.specs.Pages.{is_unflushed, is_uncleaned, is_flushed as FLUSHED, is_in_flight as IN_FLIGHT, is_freed as FREED, is_cleaning as CLEANING, may_enter as MAY_ENTER, next_to_flush as NEXT_TO_FLUSH, next_to_clean as NEXT_TO_CLEAN}
use Rattle.hl_core.specs.Standing.{pages_of}
use Rattle.hl_core.proofs.PageRows.{length-frames, left_or_marked-is, is_marked-is}

-- the sizes are not 0
pub page_size_some : (sizes : Sizes) → AreInRange sizes → 0 < sizes.page_size
page_size_some sizes range = omega (arith, range.page_size_least)

-- nor are there no frames
pub frames_some : (sizes : Sizes) → AreInRange sizes → 0 < sizes.frames
frames_some sizes range = omega (arith, range.frames_least)

-- what holds of the pages of an accepted list
pub kept : (sizes : Sizes) (A : List Step) → AreInRange sizes → IsAccepted sizes A → PagesKept sizes A
kept sizes A range a = pages_kept sizes A (page_size_some sizes range) (frames_some sizes range) a

-- the offsets are in order
pub in_order : (sizes : Sizes) (A : List Step) → AreInRange sizes → IsAccepted sizes A → AreInOrder sizes.page_size (six sizes A)
in_order sizes A range a = offsets_are_in_order sizes A (page_size_some sizes range) a

-- closed pages are sealed
pub closed_sealed : (sizes : Sizes) (A : List Step) (p : ℕ) → AreInRange sizes → IsAccepted sizes A → (p + 1) * sizes.page_size ≤ closed A → (p + 1) * sizes.page_size ≤ safe_read_only A
closed_sealed sizes A p range a h =
    let order : AreInOrder sizes.page_size (six sizes A) = in_order sizes A range a in
    omega (arith, order.closed_most, order.head_most, order.flushed_most)

-- what makes a page sealed is told of none that isn't entered
ahead : (sizes : Sizes) (A : List Step) (p : ℕ) (b : Bool) → AreInRange sizes → IsAccepted sizes A → (b ≡ true → (p + 1) * sizes.page_size ≤ safe_read_only A) → is_entered sizes p A ≡ false → b ≡ false
ahead sizes A p b range a sealed e = false_from_ne_true b (λ t. both_ways (is_entered sizes p A) e (sealed_entered sizes A p (page_size_some sizes range) a (sealed t)))

-- a page that isn't entered has no mark
pub ahead_unflushed : (sizes : Sizes) (A : List Step) (p : ℕ) → AreInRange sizes → IsAccepted sizes A → is_entered sizes p A ≡ false → is_flushed sizes p A ≡ false
ahead_unflushed sizes A p range a = ahead sizes A p (is_flushed sizes p A) range a ((kept sizes A range a).flushed_sealed p)

-- nor is it in flight
pub ahead_unflown : (sizes : Sizes) (A : List Step) (p : ℕ) → AreInRange sizes → IsAccepted sizes A → is_entered sizes p A ≡ false → is_in_flight sizes p A ≡ false
ahead_unflown sizes A p range a = ahead sizes A p (is_in_flight sizes p A) range a ((kept sizes A range a).in_flight_sealed p)

-- nor freed
pub ahead_unfreed : (sizes : Sizes) (A : List Step) (p : ℕ) → AreInRange sizes → IsAccepted sizes A → is_entered sizes p A ≡ false → is_freed sizes p A ≡ false
ahead_unfreed sizes A p range a = ahead sizes A p (is_freed sizes p A) range a (λ t. closed_sealed sizes A p range a ((kept sizes A range a).freed_closed p t))

-- nor being cleaned
pub ahead_uncleaned : (sizes : Sizes) (A : List Step) (p : ℕ) → AreInRange sizes → IsAccepted sizes A → is_entered sizes p A ≡ false → is_cleaning sizes p A ≡ false
ahead_uncleaned sizes A p range a = ahead sizes A p (is_cleaning sizes p A) range a (λ t. closed_sealed sizes A p range a ((kept sizes A range a).cleaning_closed p t))

-- flushed pages
pub is_flushed-is : (sizes : Sizes) (A : List Step) (p : ℕ) → IsAccepted sizes A → FLUSHED p (pages_of sizes A) ≡ is_flushed sizes p A
is_flushed-is sizes A p a = left_or_marked-is sizes A p (λ held. held.flushed) ∙ flushed_in-is sizes A p a

-- freed pages
pub is_freed-is : (sizes : Sizes) (A : List Step) (p : ℕ) → IsAccepted sizes A → FREED p (pages_of sizes A) ≡ is_freed sizes p A
is_freed-is sizes A p a = left_or_marked-is sizes A p (λ held. held.freed) ∙ freed_in-is sizes A p a

-- pages in flight
pub is_in_flight-is : (sizes : Sizes) (A : List Step) (p : ℕ) → IsAccepted sizes A → IN_FLIGHT p (pages_of sizes A) ≡ is_in_flight sizes p A
is_in_flight-is sizes A p a = is_marked-is sizes A p (λ held. held.in_flight) ∙ in_flight_in-is sizes A p a

-- pages that are being cleaned
pub is_cleaning-is : (sizes : Sizes) (A : List Step) (p : ℕ) → IsAccepted sizes A → CLEANING p (pages_of sizes A) ≡ is_cleaning sizes p A
is_cleaning-is sizes A p a = is_marked-is sizes A p (λ held. held.cleaning) ∙ cleaning_in-is sizes A p a

-- the page to flush
pub next_to_flush-is : (sizes : Sizes) (A : List Step) → IsAccepted sizes A → NEXT_TO_FLUSH (safe_read_only A) (pages_of sizes A) ≡ next_to_flush sizes A
unfolding next_page
next_to_flush-is sizes A a =
    find-same (is_unflushed (pages_of sizes A)) (λ p. not (is_flushed sizes p A || is_in_flight sizes p A)) (range_with_len 0 (safe_read_only A / sizes.page_size))
    (λ p. ap₂ (λ b c. not (b || c)) (is_flushed-is sizes A p a) (is_in_flight-is sizes A p a))

-- the page to clean
pub next_to_clean-is : (sizes : Sizes) (A : List Step) → IsAccepted sizes A → NEXT_TO_CLEAN (closed A) (pages_of sizes A) ≡ next_to_clean sizes A
unfolding next_page
next_to_clean-is sizes A a =
    find-same (is_uncleaned (pages_of sizes A)) (λ p. not (is_freed sizes p A || is_cleaning sizes p A)) (range_with_len 0 (closed A / sizes.page_size))
    (λ p. ap₂ (λ b c. not (b || c)) (is_freed-is sizes A p a) (is_cleaning-is sizes A p a))

-- whether a page may be entered
pub may_enter-is : (sizes : Sizes) (A : List Step) (p : ℕ) → IsAccepted sizes A → MAY_ENTER p (pages_of sizes A) ≡ may_enter sizes p A
may_enter-is sizes A p a =
    ap (λ n. cond (ltb p n) true (FREED (p - n) (pages_of sizes A))) (length-frames sizes A)
    ∙ ap (λ b. cond (ltb p sizes.frames) true b) (is_freed-is sizes A (p - sizes.frames) a)
