-- What the frames of a base tell of each page.
use Rattle.std.proofs.Common.{◌≡◌, ℕ, ◌+◌, ◌-◌, ◌%◌, ◌<◌, ◌≤◌, Bool, true, false, ◌&&◌, ◌||◌, ltb, List, get_or, map, refl, sym, ap, ◌∙◌, subst, arith, inl, inr, ◌⊎◌}
use Rattle.std.specs.Prelude.{◌==◌, Option, Some, None, option_map}
use Rattle.std.specs.List.{range_with_len}
use Rattle.std.proofs.Math.Nat.{mod-lt, mod-le}
use Rattle.std.proofs.lemmas.Bool.{eq-eqb, ne_eqb, le-ltb, lt-ltb, and_left, or_left, or_from, both_ways, cases_order, cases_lt, false_from_ne_true}
use Rattle.hl_model.specs.declared.frame.Held.{Held}
use Rattle.hl_model.specs.declared.step.Step.{Step}
use Rattle.hl_model.specs.Sizes.{Sizes}
use Rattle.hl_model.specs.Offsets.{is_entered}
use Rattle.hl_model.specs.Pages.{is_flushed, is_in_flight, is_freed, is_cleaning}
use Rattle.hl_model.specs.Frames.{last_entered}
use Rattle.hl_model.specs.Replies.{IsAccepted}
use Rattle.hl_model.specs.Bases.{base_of, marked, held_of, completed_in, marked_in, held_in, flushed_in, freed_in, in_flight_in, cleaning_in}
use Rattle.hl_laws.proofs.FrameFacts.{sealed_entered, freed_flushed, flushed_entered, cleaning_flushed, in_flight_unfreed}
use Rattle.hl_laws.proofs.FrameLaws.{IsLastOf, last_entered-is, last_entered-none, last_entered-cases, entered_below, unentered_above}
use Rattle.hl_model.proofs.Remainders.{mod-apart}
use Rattle.hl_laws.proofs.PageFacts.{round_freed, in_flight_sealed, cleaning_unfreed}
use Rattle.hl_laws.proofs.RowLaws.{row_at}
use Rattle.hl_laws.proofs.UnpagedLaws.{IsUnpaged, paged-cases, NoPages, no_pages, last_entered-unpaged}

-- what a page's frame holds
held_in-is : (sizes : Sizes) (A : List Step) (p : ℕ) → 0 < sizes.frames → held_in (base_of sizes A) p ≡ held_of sizes A (p % sizes.frames)
unfolding base_of
held_in-is sizes A p some = row_at (held_of sizes A) sizes.frames (p % sizes.frames) None (mod-lt p some)

-- without pages it holds nothing
held_in-none : (sizes : Sizes) (A : List Step) (p : ℕ) → NoPages sizes A → held_in (base_of sizes A) p ≡ None
unfolding base_of
held_in-none sizes A p empty = by_order (cases_lt 0 sizes.frames)
  where
    by_order : ((0 < sizes.frames) ⊎ (sizes.frames ≤ 0)) → get_or (map (held_of sizes A) (range_with_len 0 sizes.frames)) (p % sizes.frames) None ≡ None
    by_order (inl some) = held_in-is sizes A p some ∙ ap (option_map (marked sizes A)) (last_entered-unpaged sizes (p % sizes.frames) A empty.tail_none)
    by_order (inr none) =
        let zero_frames : sizes.frames ≡ 0 = omega (arith, none) in
        ap (λ n. get_or (map (held_of sizes A) (range_with_len 0 n)) (p % sizes.frames) None) zero_frames

-- what a page's frame holds: the page; a later page, with the frame's next one entered; or, where the page isn't
-- entered, nothing or an earlier one
by_place : (sizes : Sizes) (A : List Step) (p : ℕ) (P : Option Held → Type 0) → 0 < sizes.page_size → 0 < sizes.frames → P (Some (marked sizes A p)) → ((q : ℕ) → is_entered sizes (p + sizes.frames) A ≡ true → p < q → P (Some (marked sizes A q))) → (is_entered sizes p A ≡ false → P None) → ((q : ℕ) → is_entered sizes p A ≡ false → q < p → P (Some (marked sizes A q))) → P (held_in (base_of sizes A) p)
by_place sizes A p P page_size frames lies left empty ahead = subst P (sym (held_in-is sizes A p frames)) (by_case (last_entered-cases sizes (p % sizes.frames) A page_size (mod-lt p frames)))
  where
    by_order : (q : ℕ) → IsLastOf sizes (p % sizes.frames) q A → ((p ≡ q) ⊎ ((p < q) ⊎ (q < p))) → P (Some (marked sizes A q))
    by_order q last (inl same) = subst (λ (r : ℕ). P (Some (marked sizes A r))) same lies
    by_order q last (inr (inl lt)) = left q (entered_below sizes q (p + sizes.frames) A last.entered (mod-apart p q sizes.frames (sym last.of_frame) lt)) lt
    by_order q last (inr (inr gt)) = ahead q (unentered_above sizes (q + sizes.frames) p A last.next_not (mod-apart q p sizes.frames last.of_frame gt)) gt

    by_case : ((is_entered sizes (p % sizes.frames) A ≡ false) ⊎ ((q : ℕ) × IsLastOf sizes (p % sizes.frames) q A)) → P (held_of sizes A (p % sizes.frames))
    by_case (inl e) =
        subst (λ (o : Option ℕ). P (option_map (marked sizes A) o)) (sym (last_entered-none sizes (p % sizes.frames) A page_size (mod-lt p frames) e))
        (empty (unentered_above sizes (p % sizes.frames) p A e (mod-le p sizes.frames)))
    by_case (inr (q, last)) =
        let is : last_entered sizes (p % sizes.frames) A ≡ Some q = last_entered-is sizes (p % sizes.frames) q A page_size frames last.entered last.of_frame last.next_not in
        subst (λ (o : Option ℕ). P (option_map (marked sizes A) o)) (sym is) (by_order q last (cases_order p q))

-- a page's own mark counts
here_core : (p : ℕ) (m b : Bool) → m ≡ b → (ltb p p || (p == p && m)) ≡ b
here_core p m b h = rw (le-ltb p p (omega arith), eq-eqb p p refl) h

-- where the frame holds the page
own_core : (p : ℕ) (m b : Bool) → m ≡ b → (p == p && m) ≡ b
own_core p m b h = rw (eq-eqb p p refl) h

-- a mark that each page has that left its frame, and none that isn't entered
completed_in-is : (sizes : Sizes) (A : List Step) (p : ℕ) (mark : Held → Bool) (b : Bool) → 0 < sizes.page_size → 0 < sizes.frames → mark (marked sizes A p) ≡ b → (is_entered sizes (p + sizes.frames) A ≡ true → b ≡ true) → (is_entered sizes p A ≡ false → b ≡ false) → completed_in mark p (held_in (base_of sizes A) p) ≡ b
completed_in-is sizes A p mark b page_size frames here gone ahead =
    by_place sizes A p (λ o. completed_in mark p o ≡ b) page_size frames
    (here_core p (mark (marked sizes A p)) b here)
    (λ q e lt. or_left (ltb p q) (p == q && mark (marked sizes A q)) (lt-ltb p q lt) ∙ sym (gone e))
    (λ e. sym (ahead e))
    (λ q e gt. or_from (ltb p q) (p == q && mark (marked sizes A q)) (le-ltb p q (omega (arith, gt))) (and_left (p == q) (mark (marked sizes A q)) (ne_eqb p q (λ same. omega (arith, gt, same)))) ∙ sym (ahead e))

-- a mark that no page has but one that its frame holds
marked_in-is : (sizes : Sizes) (A : List Step) (p : ℕ) (mark : Held → Bool) (b : Bool) → 0 < sizes.page_size → 0 < sizes.frames → mark (marked sizes A p) ≡ b → (is_entered sizes (p + sizes.frames) A ≡ true → b ≡ false) → (is_entered sizes p A ≡ false → b ≡ false) → marked_in mark p (held_in (base_of sizes A) p) ≡ b
marked_in-is sizes A p mark b page_size frames here gone ahead =
    by_place sizes A p (λ o. marked_in mark p o ≡ b) page_size frames
    (own_core p (mark (marked sizes A p)) b here)
    (λ q e lt. and_left (p == q) (mark (marked sizes A q)) (ne_eqb p q (λ same. omega (arith, lt, same))) ∙ sym (gone e))
    (λ e. sym (ahead e))
    (λ q e gt. and_left (p == q) (mark (marked sizes A q)) (ne_eqb p q (λ same. omega (arith, gt, same))) ∙ sym (ahead e))

-- a page that left its frame was freed
left_freed : (sizes : Sizes) (A : List Step) (p : ℕ) → 0 < sizes.page_size → IsAccepted sizes A → is_entered sizes (p + sizes.frames) A ≡ true → is_freed sizes p A ≡ true
left_freed sizes A p page_size a e =
    let back : (p + sizes.frames) - sizes.frames ≡ p = omega arith in
    ap (λ q. is_freed sizes q A) (sym back) ∙ round_freed sizes (p + sizes.frames) page_size (omega arith) A a e

-- the flushed pages
pub flushed_in-is : (sizes : Sizes) (A : List Step) (p : ℕ) → IsAccepted sizes A → flushed_in (base_of sizes A) p ≡ is_flushed sizes p A
flushed_in-is sizes A p a = by_sizes (paged-cases sizes)
  where
    by_sizes : (((0 < sizes.page_size) × (0 < sizes.frames)) ⊎ IsUnpaged sizes) → flushed_in (base_of sizes A) p ≡ is_flushed sizes p A
    by_sizes (inl (page_size, frames)) =
        completed_in-is sizes A p (λ held. held.flushed) (is_flushed sizes p A) page_size frames refl
        (λ e. freed_flushed sizes A p page_size a (left_freed sizes A p page_size a e))
        (λ e. false_from_ne_true (is_flushed sizes p A) (λ h. both_ways (is_entered sizes p A) e (flushed_entered sizes A p page_size a h)))
    by_sizes (inr none) =
        let empty : NoPages sizes A = no_pages sizes A none a in
        ap (completed_in (λ held. held.flushed) p) (held_in-none sizes A p empty) ∙ sym (empty.unflushed p)

-- the freed pages
pub freed_in-is : (sizes : Sizes) (A : List Step) (p : ℕ) → IsAccepted sizes A → freed_in (base_of sizes A) p ≡ is_freed sizes p A
freed_in-is sizes A p a = by_sizes (paged-cases sizes)
  where
    by_sizes : (((0 < sizes.page_size) × (0 < sizes.frames)) ⊎ IsUnpaged sizes) → freed_in (base_of sizes A) p ≡ is_freed sizes p A
    by_sizes (inl (page_size, frames)) =
        completed_in-is sizes A p (λ held. held.freed) (is_freed sizes p A) page_size frames refl
        (λ e. left_freed sizes A p page_size a e)
        (λ e. false_from_ne_true (is_freed sizes p A) (λ h. both_ways (is_entered sizes p A) e (flushed_entered sizes A p page_size a (freed_flushed sizes A p page_size a h))))
    by_sizes (inr none) =
        let empty : NoPages sizes A = no_pages sizes A none a in
        ap (completed_in (λ held. held.freed) p) (held_in-none sizes A p empty) ∙ sym (empty.unfreed p)

-- the pages in flight
pub in_flight_in-is : (sizes : Sizes) (A : List Step) (p : ℕ) → IsAccepted sizes A → in_flight_in (base_of sizes A) p ≡ is_in_flight sizes p A
in_flight_in-is sizes A p a = by_sizes (paged-cases sizes)
  where
    by_sizes : (((0 < sizes.page_size) × (0 < sizes.frames)) ⊎ IsUnpaged sizes) → in_flight_in (base_of sizes A) p ≡ is_in_flight sizes p A
    by_sizes (inl (page_size, frames)) =
        marked_in-is sizes A p (λ held. held.in_flight) (is_in_flight sizes p A) page_size frames refl
        (λ e. false_from_ne_true (is_in_flight sizes p A) (λ h. both_ways (is_freed sizes p A) (in_flight_unfreed sizes A p page_size a h) (left_freed sizes A p page_size a e)))
        (λ e. false_from_ne_true (is_in_flight sizes p A) (λ h. both_ways (is_entered sizes p A) e (sealed_entered sizes A p page_size a (in_flight_sealed sizes A p page_size a h))))
    by_sizes (inr none) =
        let empty : NoPages sizes A = no_pages sizes A none a in
        ap (marked_in (λ held. held.in_flight) p) (held_in-none sizes A p empty) ∙ sym (empty.not_in_flight p)

-- the pages that are being cleaned
pub cleaning_in-is : (sizes : Sizes) (A : List Step) (p : ℕ) → IsAccepted sizes A → cleaning_in (base_of sizes A) p ≡ is_cleaning sizes p A
cleaning_in-is sizes A p a = by_sizes (paged-cases sizes)
  where
    by_sizes : (((0 < sizes.page_size) × (0 < sizes.frames)) ⊎ IsUnpaged sizes) → cleaning_in (base_of sizes A) p ≡ is_cleaning sizes p A
    by_sizes (inl (page_size, frames)) =
        marked_in-is sizes A p (λ held. held.cleaning) (is_cleaning sizes p A) page_size frames refl
        (λ e. false_from_ne_true (is_cleaning sizes p A) (λ h. both_ways (is_freed sizes p A) (cleaning_unfreed sizes A p page_size a h) (left_freed sizes A p page_size a e)))
        (λ e. false_from_ne_true (is_cleaning sizes p A) (λ h. both_ways (is_entered sizes p A) e (flushed_entered sizes A p page_size a (cleaning_flushed sizes A p page_size a h))))
    by_sizes (inr none) =
        let empty : NoPages sizes A = no_pages sizes A none a in
        ap (marked_in (λ held. held.cleaning) p) (held_in-none sizes A p empty) ∙ sym (empty.not_cleaning p)
