-- Which pages the frames of every accepted list hold.
use Rattle.std.proofs.Common.{◌≡◌, ℕ, ◌+◌, ◌-◌, ◌*◌, ◌%◌, ◌<◌, ◌≤◌, true, false, List, refl, sym, ap, ◌∙◌, arith}
use Rattle.std.specs.Prelude.{Some}
use Rattle.std.proofs.lemmas.Bool.{lt-ltb, both_ways, false_from_ne_true}
use Rattle.hl_model.specs.declared.step.Step.{Step}
use Rattle.hl_model.specs.Sizes.{Sizes}
use Rattle.hl_model.specs.Offsets.{tail, is_entered}
use Rattle.hl_model.specs.Settled.{safe_read_only}
use Rattle.hl_model.specs.Pages.{is_flushed, is_in_flight, is_freed, is_cleaning}
use Rattle.hl_model.specs.Frames.{last_entered}
use Rattle.hl_model.specs.Replies.{IsAccepted}
use Rattle.hl_laws.proofs.FrameLaws.{last_entered-is}
use Rattle.hl_laws.proofs.PageFacts.{flushed_sealed, in_flight_sealed, in_flight_unflushed, freed_closed, cleaning_closed, cleaning_unfreed, closed_flushed, round_freed}
use Rattle.hl_laws.proofs.BoundLaws.{safe_read_only-le-read_only, read_only-le-tail}

-- sealed pages are entered
pub sealed_entered : (sizes : Sizes) (A : List Step) (p : ℕ) → 0 < sizes.page_size → IsAccepted sizes A → (p + 1) * sizes.page_size ≤ safe_read_only A → is_entered sizes p A ≡ true
sealed_entered sizes A p some a h =
    let more : (p + 1) * sizes.page_size ≡ p * sizes.page_size + sizes.page_size = omega arith in
    lt-ltb (p * sizes.page_size) (tail sizes A) (omega (arith, h, safe_read_only-le-read_only sizes A a, read_only-le-tail sizes A some a))

-- freed pages are flushed
pub freed_flushed : (sizes : Sizes) (A : List Step) (p : ℕ) → 0 < sizes.page_size → IsAccepted sizes A → is_freed sizes p A ≡ true → is_flushed sizes p A ≡ true
freed_flushed sizes A p some a h = closed_flushed sizes A p some a (freed_closed sizes A p some a h)

-- so are those being cleaned
pub cleaning_flushed : (sizes : Sizes) (A : List Step) (p : ℕ) → 0 < sizes.page_size → IsAccepted sizes A → is_cleaning sizes p A ≡ true → is_flushed sizes p A ≡ true
cleaning_flushed sizes A p some a h = closed_flushed sizes A p some a (cleaning_closed sizes A p some a h)

-- flushed pages are entered
pub flushed_entered : (sizes : Sizes) (A : List Step) (p : ℕ) → 0 < sizes.page_size → IsAccepted sizes A → is_flushed sizes p A ≡ true → is_entered sizes p A ≡ true
flushed_entered sizes A p some a h = sealed_entered sizes A p some a (flushed_sealed sizes A p some a h)

-- pages in flight aren't freed
pub in_flight_unfreed : (sizes : Sizes) (A : List Step) (p : ℕ) → 0 < sizes.page_size → IsAccepted sizes A → is_in_flight sizes p A ≡ true → is_freed sizes p A ≡ false
in_flight_unfreed sizes A p some a h =
    false_from_ne_true (is_freed sizes p A) (λ e. both_ways (is_flushed sizes p A) (in_flight_unflushed sizes A p some a h) (freed_flushed sizes A p some a e))

-- where an entered page isn't freed, its frame's next one isn't entered
pub unfreed_next : (sizes : Sizes) (A : List Step) (p : ℕ) → 0 < sizes.page_size → IsAccepted sizes A → is_freed sizes p A ≡ false → is_entered sizes (p + sizes.frames) A ≡ false
unfreed_next sizes A p some a h = false_from_ne_true (is_entered sizes (p + sizes.frames) A) next
  where
    next : is_entered sizes (p + sizes.frames) A ≡ true → ⊥
    next e =
        let back : (p + sizes.frames) - sizes.frames ≡ p = omega arith in
        both_ways (is_freed sizes p A) h (ap (λ q. is_freed sizes q A) (sym back) ∙ round_freed sizes (p + sizes.frames) some (omega arith) A a e)

-- an entered page that isn't freed is the last of its frame
pub unfreed_last : (sizes : Sizes) (A : List Step) (p : ℕ) → 0 < sizes.page_size → 0 < sizes.frames → IsAccepted sizes A → is_entered sizes p A ≡ true → is_freed sizes p A ≡ false → last_entered sizes (p % sizes.frames) A ≡ Some p
unfreed_last sizes A p page_size frames a e h = last_entered-is sizes (p % sizes.frames) p A page_size frames e refl (unfreed_next sizes A p page_size a h)

-- a page in flight is the last of its frame
pub in_flight_last : (sizes : Sizes) (A : List Step) (p : ℕ) → 0 < sizes.page_size → 0 < sizes.frames → IsAccepted sizes A → is_in_flight sizes p A ≡ true → last_entered sizes (p % sizes.frames) A ≡ Some p
in_flight_last sizes A p page_size frames a h =
    unfreed_last sizes A p page_size frames a (sealed_entered sizes A p page_size a (in_flight_sealed sizes A p page_size a h)) (in_flight_unfreed sizes A p page_size a h)

-- so is a page that is being cleaned
pub cleaning_last : (sizes : Sizes) (A : List Step) (p : ℕ) → 0 < sizes.page_size → 0 < sizes.frames → IsAccepted sizes A → is_cleaning sizes p A ≡ true → last_entered sizes (p % sizes.frames) A ≡ Some p
cleaning_last sizes A p page_size frames a h =
    unfreed_last sizes A p page_size frames a (flushed_entered sizes A p page_size a (cleaning_flushed sizes A p page_size a h)) (cleaning_unfreed sizes A p page_size a h)
