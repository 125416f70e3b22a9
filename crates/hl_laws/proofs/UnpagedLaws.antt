-- Sizes without words or without frames: no accepted list has a page.
use Rattle.std.proofs.Common.{◌≡◌, ℕ, ◌+◌, ◌-◌, ◌*◌, ◌/◌, ◌%◌, ◌<◌, ◌≤◌, true, false, ltb, List, [], ◌∷◌, ◌++◌, ap, ◌∙◌, arith, inl, inr, ◌⊎◌}
use Rattle.std.specs.Prelude.{◌==◌, None}
use Rattle.std.proofs.Math.Nat.{div-zero}
use Rattle.std.proofs.lemmas.Bool.{and_left, le-ltb, both_ways, false_from_ne_true, or_cases, cases_lt}
use Rattle.hl_model.specs.declared.step.Step.{Step}
use Rattle.hl_model.specs.declared.step.Step.TheVariants.{Allocate}
use Rattle.hl_model.specs.Sizes.{Sizes}
use Rattle.hl_model.specs.Offsets.{tail, place_of, is_entered}
use Rattle.hl_model.specs.Settled.{safe_read_only, closed}
use Rattle.hl_model.specs.Pages.{flushing, cleaning, is_flushed, is_in_flight, is_freed, is_cleaning}
use Rattle.hl_model.specs.Frames.{last_entered, may_enter}
use Rattle.hl_model.specs.Replies.{fault_of, IsAccepted}
use Rattle.hl_laws.proofs.AcceptedLaws.{accepted_has}
use Rattle.hl_laws.proofs.FrameFacts.{sealed_entered, freed_flushed, flushed_entered, cleaning_flushed}
use Rattle.hl_laws.proofs.FrameLaws.{HasRoom, allocate-room, is_entered_in}
use Rattle.hl_model.proofs.ListLaws.{greatest_below-nothing}
use Rattle.hl_laws.proofs.OffsetLaws.{tail-push, tail-nil}
use Rattle.hl_laws.proofs.PageFacts.{Lawful, flush_takes_nothing, flushes_flush_of, flush_was_out, clean_takes_nothing, frees_clean_of, clean_was_out, out_due, complete_due, may_enter-freed, in_flight_sealed}

-- there are no words, or no frames
abbrev pub IsUnpaged : Sizes → Type 0
IsUnpaged sizes = (sizes.page_size ≡ 0) ⊎ (sizes.frames ≡ 0)

-- sizes have pages or not
pub paged-cases : (sizes : Sizes) → ((0 < sizes.page_size) × (0 < sizes.frames)) ⊎ IsUnpaged sizes
paged-cases sizes = by_order (cases_lt 0 sizes.page_size) (cases_lt 0 sizes.frames)
  where
    by_order : ((0 < sizes.page_size) ⊎ (sizes.page_size ≤ 0)) → ((0 < sizes.frames) ⊎ (sizes.frames ≤ 0)) → ((0 < sizes.page_size) × (0 < sizes.frames)) ⊎ IsUnpaged sizes
    by_order (inl page_size) (inl frames) = inl (page_size, frames)
    by_order (inr none) frames = inr (inl (omega (arith, none)))
    by_order page_size (inr none) = inr (inr (omega (arith, none)))

-- nothing is entered, flushed, in flight, freed or being cleaned
pub record NoPages (sizes : Sizes) (A : List Step) : Type 0 where
  pub tail_none : tail sizes A ≡ 0
  pub unflushed : (p : ℕ) → is_flushed sizes p A ≡ false
  pub not_in_flight : (p : ℕ) → is_in_flight sizes p A ≡ false
  pub unfreed : (p : ℕ) → is_freed sizes p A ≡ false
  pub not_cleaning : (p : ℕ) → is_cleaning sizes p A ≡ false

none_due : (sizes : Sizes) (a : ℕ) → sizes.page_size ≡ 0 → a / sizes.page_size ≡ 0
none_due sizes a h = ap (λ n. a / n) h ∙ div-zero a

flushing_empty : (sizes : Sizes) → sizes.page_size ≡ 0 → Lawful sizes (flushing sizes)
flushing_empty sizes h = record {
  grows = λ A s a. omega (arith, none_due sizes (safe_read_only A) h);
  takes_nothing = flush_takes_nothing;
  completes_ends = flushes_flush_of;
  ends_out = flush_was_out sizes;
}

cleaning_empty : (sizes : Sizes) → sizes.page_size ≡ 0 → Lawful sizes (cleaning sizes)
cleaning_empty sizes h = record {
  grows = λ A s a. omega (arith, none_due sizes (closed A) h);
  takes_nothing = clean_takes_nothing;
  completes_ends = frees_clean_of;
  ends_out = clean_was_out sizes;
}

-- the tail stays at 0 where no allocation is accepted
tail-stays : (sizes : Sizes) → ((A : List Step) (t n : ℕ) → IsAccepted sizes A → tail sizes A ≡ 0 → fault_of sizes A (Allocate t n) ≡ None → ⊥) → (A : List Step) → IsAccepted sizes A → tail sizes A ≡ 0
tail-stays sizes refuses = accepted_has sizes (λ A. tail sizes A ≡ 0) (tail-nil sizes) step
  where
    step : (A : List Step) (s : Step) → IsAccepted sizes A → fault_of sizes A s ≡ None → tail sizes A ≡ 0 → tail sizes (A ++ s ∷ []) ≡ 0
    step A (Allocate t n) a f before = absurd (refuses A t n a before f)
    step A s a f before = tail-push sizes A s ∙ before

-- no page begins below a tail of 0
pub unentered : (sizes : Sizes) (A : List Step) (p : ℕ) → tail sizes A ≡ 0 → is_entered sizes p A ≡ false
unentered sizes A p h = ap (λ n. ltb (p * sizes.page_size) n) h ∙ le-ltb (p * sizes.page_size) 0 (omega arith)

-- without words no record has room
without_words : (sizes : Sizes) → sizes.page_size ≡ 0 → (A : List Step) (t n : ℕ) → IsAccepted sizes A → tail sizes A ≡ 0 → fault_of sizes A (Allocate t n) ≡ None → ⊥
without_words sizes h A t n a none f = let room : HasRoom sizes A n = allocate-room sizes A t n f in omega (arith, room.least, room.most, h)

-- without frames no page may be entered
without_frames : (sizes : Sizes) → 0 < sizes.page_size → sizes.frames ≡ 0 → (A : List Step) (t n : ℕ) → IsAccepted sizes A → tail sizes A ≡ 0 → fault_of sizes A (Allocate t n) ≡ None → ⊥
without_frames sizes page_size h A t n a none f = by_part (or_cases (is_entered sizes q A) (may_enter sizes q A) (allocate-room sizes A t n f).enters)
  where
    q : ℕ
    q = place_of sizes.page_size (tail sizes A) n / sizes.page_size

    by_part : ((is_entered sizes q A ≡ true) ⊎ (may_enter sizes q A ≡ true)) → ⊥
    by_part (inl e) = both_ways (is_entered sizes q A) (unentered sizes A q none) e
    by_part (inr m) =
        let freed : is_freed sizes (q - sizes.frames) A ≡ true = may_enter-freed sizes q A (omega (arith, h)) m in
        both_ways (is_entered sizes (q - sizes.frames) A) (unentered sizes A (q - sizes.frames) none) (flushed_entered sizes A (q - sizes.frames) page_size a (freed_flushed sizes A (q - sizes.frames) page_size a freed))

-- where no page is entered there are none
unentered_none : (sizes : Sizes) (A : List Step) → 0 < sizes.page_size → IsAccepted sizes A → tail sizes A ≡ 0 → NoPages sizes A
unentered_none sizes A page_size a none = record {
  tail_none = none;
  unflushed = λ p. false_from_ne_true (is_flushed sizes p A) (λ h. both_ways (is_entered sizes p A) (unentered sizes A p none) (flushed_entered sizes A p page_size a h));
  not_in_flight = λ p. false_from_ne_true (is_in_flight sizes p A) (λ h. both_ways (is_entered sizes p A) (unentered sizes A p none) (sealed_entered sizes A p page_size a (in_flight_sealed sizes A p page_size a h)));
  unfreed = λ p. false_from_ne_true (is_freed sizes p A) (λ h. both_ways (is_entered sizes p A) (unentered sizes A p none) (flushed_entered sizes A p page_size a (freed_flushed sizes A p page_size a h)));
  not_cleaning = λ p. false_from_ne_true (is_cleaning sizes p A) (λ h. both_ways (is_entered sizes p A) (unentered sizes A p none) (flushed_entered sizes A p page_size a (cleaning_flushed sizes A p page_size a h)));
}

-- nor where there are no words
wordless_none : (sizes : Sizes) (A : List Step) → sizes.page_size ≡ 0 → IsAccepted sizes A → NoPages sizes A
wordless_none sizes A h a = record {
  tail_none = tail-stays sizes (without_words sizes h) A a;
  unflushed = λ p. false_from_ne_true (is_flushed sizes p A) (λ e. omega (arith, complete_due sizes (flushing sizes) p (flushing_empty sizes h) A a e, none_due sizes (safe_read_only A) h));
  not_in_flight = λ p. false_from_ne_true (is_in_flight sizes p A) (λ e. omega (arith, out_due sizes (flushing sizes) p (flushing_empty sizes h) A a e, none_due sizes (safe_read_only A) h));
  unfreed = λ p. false_from_ne_true (is_freed sizes p A) (λ e. omega (arith, complete_due sizes (cleaning sizes) p (cleaning_empty sizes h) A a e, none_due sizes (closed A) h));
  not_cleaning = λ p. false_from_ne_true (is_cleaning sizes p A) (λ e. omega (arith, out_due sizes (cleaning sizes) p (cleaning_empty sizes h) A a e, none_due sizes (closed A) h));
}

-- no accepted list of such sizes has a page
pub no_pages : (sizes : Sizes) (A : List Step) → IsUnpaged sizes → IsAccepted sizes A → NoPages sizes A
no_pages sizes A (inl h) a = wordless_none sizes A h a
no_pages sizes A (inr h) a = by_order (cases_lt 0 sizes.page_size)
  where
    by_order : ((0 < sizes.page_size) ⊎ (sizes.page_size ≤ 0)) → NoPages sizes A
    by_order (inl page_size) = unentered_none sizes A page_size a (tail-stays sizes (without_frames sizes page_size h) A a)
    by_order (inr none) = wordless_none sizes A (omega (arith, none)) a

-- and no frame has a last one
pub last_entered-unpaged : (sizes : Sizes) (f : ℕ) (A : List Step) → tail sizes A ≡ 0 → last_entered sizes f A ≡ None
unfolding last_entered
last_entered-unpaged sizes f A h =
    greatest_below-nothing (is_entered_in sizes f A) (tail sizes A / sizes.page_size + 1)
    (λ m lt. and_left (is_entered sizes m A) (m % sizes.frames == f) (unentered sizes A m h))
