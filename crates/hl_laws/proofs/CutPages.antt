-- Pages and frames of a base and the steps since.
use Rattle.std.proofs.Common.{◌≡◌, ℕ, ◌+◌, ◌*◌, ◌/◌, ◌%◌, ◌<◌, true, false, ◌&&◌, ltb, max, List, ◌++◌, refl, sym, ap, ◌∙◌, arith, inl, inr, ◌⊎◌, Bool}
use Rattle.std.specs.Prelude.{◌==◌, Option, option_map, Some, None}
use Rattle.std.proofs.lemmas.Bool.{or_from, both_ways, false_from_ne_true}
use Rattle.hl_model.specs.declared.frame.Held.{Held}
use Rattle.hl_model.specs.declared.step.Step.{Step}
use Rattle.hl_model.specs.Lists.{greatest, greatest_below}
use Rattle.hl_model.specs.Sizes.{Sizes}
use Rattle.hl_model.specs.Offsets.{tail}
use Rattle.hl_model.specs.Settled.{safe_read_only, closed, pages_below}
use Rattle.hl_model.specs.Pages.{is_complete, is_flushed, is_in_flight, is_freed, is_cleaning, flushes_below, flushed_run, flushed, next_to_flush, next_to_clean}
use Rattle.hl_model.specs.Frames.{last_entered}
use Rattle.hl_model.specs.Replies.{IsAccepted}
use Rattle.hl_model.specs.Bases.{base_of, marked, held_of, flushed_in}
use Rattle.hl_model.specs.AfterPages.{is_complete_after, is_out_after, marks_after, next_after, flushing_after, cleaning_after, flushed_run_after, flushed_after, last_entered_after, marked_after, held_after}
use Rattle.hl_laws.proofs.AcceptedLaws.{IsAccepted-front}
use Rattle.hl_laws.proofs.CutOffsets.{tail_after-is}
use Rattle.hl_laws.proofs.CutRows.{flushed_in-is, freed_in-is, in_flight_in-is, cleaning_in-is}
use Rattle.hl_laws.proofs.CutSettled.{safe_read_only_after-is, closed_after-is}
use Rattle.hl_laws.proofs.CutWork.{GoesOn, is_complete_after-is, is_out_after-is, next_page_after-is}
use Rattle.hl_laws.proofs.FrameFacts.{flushed_entered}
use Rattle.hl_laws.proofs.FrameLaws.{entered_within}
use Rattle.hl_laws.proofs.RunLaws.{flushed-below, run_passes, run_fails, flushed_run-is}
use Rattle.hl_laws.proofs.UnpagedLaws.{IsUnpaged, paged-cases, no_pages}

-- the number of pages to flush in a list
abbrev flush_due : Sizes → List Step → ℕ
flush_due sizes A = pages_below sizes (safe_read_only A)

-- and of those to clean
abbrev clean_due : Sizes → List Step → ℕ
clean_due sizes A = pages_below sizes (closed A)

-- flushing goes on from a base
flushing_on : (sizes : Sizes) (A : List Step) → IsAccepted sizes A → GoesOn sizes (flushing_after (base_of sizes A)) (flush_due sizes) A
unfolding base_of
flushing_on sizes A a = record {
  complete = λ p. flushed_in-is sizes A p a;
  out = λ p. in_flight_in-is sizes A p a;
  same_due = λ L all. ap (pages_below sizes) (safe_read_only_after-is sizes A L all);
}

-- and so does cleaning
cleaning_on : (sizes : Sizes) (A : List Step) → IsAccepted sizes A → GoesOn sizes (cleaning_after (base_of sizes A)) (clean_due sizes) A
unfolding base_of
cleaning_on sizes A a = record {
  complete = λ p. freed_in-is sizes A p a;
  out = λ p. cleaning_in-is sizes A p a;
  same_due = λ L all. ap (pages_below sizes) (closed_after-is sizes A L all);
}

-- the flushed pages
flushed_page-is : (sizes : Sizes) (A L : List Step) (p : ℕ) → IsAccepted sizes (A ++ L) → is_complete_after (flushing_after (base_of sizes A)) p L ≡ is_flushed sizes p (A ++ L)
unfolding base_of
flushed_page-is sizes A L p a =
    is_complete_after-is sizes (flushing_after (base_of sizes A)) (flush_due sizes) A p L (flushing_on sizes A (IsAccepted-front sizes A L a))

-- those in flight
in_flight_page-is : (sizes : Sizes) (A L : List Step) (p : ℕ) → IsAccepted sizes (A ++ L) → is_out_after (flushing_after (base_of sizes A)) p (marks_after (flushing_after (base_of sizes A)) L) ≡ is_in_flight sizes p (A ++ L)
unfolding base_of
in_flight_page-is sizes A L p a =
    is_out_after-is sizes (flushing_after (base_of sizes A)) (flush_due sizes) A p L (flushing_on sizes A (IsAccepted-front sizes A L a)) a

-- those that are freed
freed_page-is : (sizes : Sizes) (A L : List Step) (p : ℕ) → IsAccepted sizes (A ++ L) → is_complete_after (cleaning_after (base_of sizes A)) p L ≡ is_freed sizes p (A ++ L)
unfolding base_of
freed_page-is sizes A L p a =
    is_complete_after-is sizes (cleaning_after (base_of sizes A)) (clean_due sizes) A p L (cleaning_on sizes A (IsAccepted-front sizes A L a))

-- and those that are being cleaned
cleaning_page-is : (sizes : Sizes) (A L : List Step) (p : ℕ) → IsAccepted sizes (A ++ L) → is_out_after (cleaning_after (base_of sizes A)) p (marks_after (cleaning_after (base_of sizes A)) L) ≡ is_cleaning sizes p (A ++ L)
unfolding base_of
cleaning_page-is sizes A L p a =
    is_out_after-is sizes (cleaning_after (base_of sizes A)) (clean_due sizes) A p L (cleaning_on sizes A (IsAccepted-front sizes A L a)) a

-- the page to flush
pub next_to_flush-is : (sizes : Sizes) (A L : List Step) → IsAccepted sizes (A ++ L) → next_after (flushing_after (base_of sizes A)) L ≡ next_to_flush sizes (A ++ L)
unfolding base_of
next_to_flush-is sizes A L a =
    next_page_after-is sizes (flushing_after (base_of sizes A)) (flush_due sizes) A L (flushing_on sizes A (IsAccepted-front sizes A L a)) a

-- and the page to clean
pub next_to_clean-is : (sizes : Sizes) (A L : List Step) → IsAccepted sizes (A ++ L) → next_after (cleaning_after (base_of sizes A)) L ≡ next_to_clean sizes (A ++ L)
unfolding base_of
next_to_clean-is sizes A L a =
    next_page_after-is sizes (cleaning_after (base_of sizes A)) (clean_due sizes) A L (cleaning_on sizes A (IsAccepted-front sizes A L a)) a

-- no flushed page is beyond the tail
flushed_within : (sizes : Sizes) (A : List Step) (p : ℕ) → IsAccepted sizes A → is_flushed sizes p A ≡ true → p < tail sizes A / sizes.page_size + 1
flushed_within sizes A p a h = by_sizes (paged-cases sizes)
  where
    by_sizes : (((0 < sizes.page_size) × (0 < sizes.frames)) ⊎ IsUnpaged sizes) → p < tail sizes A / sizes.page_size + 1
    by_sizes (inl (page_size, frames)) = entered_within sizes p A page_size (flushed_entered sizes A p page_size a h)
    by_sizes (inr none) = absurd (both_ways (is_flushed sizes p A) ((no_pages sizes A none a).unflushed p) h)

-- nor is one beyond the greatest flushed since
beyond_both : (sizes : Sizes) (A L : List Step) → IsAccepted sizes A → is_complete_after (flushing_after (base_of sizes A)) (max (tail sizes A / sizes.page_size + 1) (greatest flushes_below L)) L ≡ false
unfolding is_complete_after is_complete
beyond_both sizes A L a =
    or_from (flushed_in (base_of sizes A) n) (is_flushed sizes n L)
    (flushed_in-is sizes A n a ∙ false_from_ne_true (is_flushed sizes n A) (λ h. omega (arith, flushed_within sizes A n a h)))
    (false_from_ne_true (is_flushed sizes n L) (λ h. omega (arith, flushed-below sizes n L h)))
  where
    n : ℕ
    n = max (tail sizes A / sizes.page_size + 1) (greatest flushes_below L)

-- the run of flushed pages
flushed_run_after-is : (sizes : Sizes) (A L : List Step) → IsAccepted sizes (A ++ L) → flushed_run_after (base_of sizes A) L ≡ flushed_run sizes (A ++ L)
unfolding flushed_run_after base_of
flushed_run_after-is sizes A L a =
    sym (flushed_run-is sizes (A ++ L) (flushed_run_after (base_of sizes A) L)
    (λ p h. sym (flushed_page-is sizes A L p a) ∙ run_passes test n p h)
    (sym (flushed_page-is sizes A L (flushed_run_after (base_of sizes A) L) a) ∙ run_fails test n (beyond_both sizes A L (IsAccepted-front sizes A L a))))
  where
    test : ℕ → Bool
    test p = is_complete_after (flushing_after (base_of sizes A)) p L

    n : ℕ
    n = max (tail sizes A / sizes.page_size + 1) (greatest flushes_below L)

-- the flushed offset
pub flushed_after-is : (sizes : Sizes) (A L : List Step) → IsAccepted sizes (A ++ L) → flushed_after (base_of sizes A) L ≡ flushed sizes (A ++ L)
unfolding base_of
flushed_after-is sizes A L a = ap (λ n. sizes.page_size * n) (flushed_run_after-is sizes A L a)

-- the last page of a frame
last_entered_after-is : (sizes : Sizes) (f : ℕ) (A L : List Step) → last_entered_after (base_of sizes A) f L ≡ last_entered sizes f (A ++ L)
unfolding last_entered_after last_entered base_of
last_entered_after-is sizes f A L =
    ap (λ a. greatest_below (λ p. ltb (p * sizes.page_size) a && p % sizes.frames == f) (a / sizes.page_size + 1)) (tail_after-is sizes A L)

-- a page with its marks, from these
same_marks : (p : ℕ) (a b c d e f g h : Bool) → a ≡ b → c ≡ d → e ≡ f → g ≡ h → ◌≡◌ {A = Held} (record { page = p; flushed = a; in_flight = c; freed = e; cleaning = g }) (record { page = p; flushed = b; in_flight = d; freed = f; cleaning = h })
same_marks p a b c d e f g h i j k l = rw (i, j, k, l) refl

marked_after-is : (sizes : Sizes) (A L : List Step) (p : ℕ) → IsAccepted sizes (A ++ L) → marked_after (base_of sizes A) L p ≡ marked sizes (A ++ L) p
marked_after-is sizes A L p a =
    same_marks p _ _ _ _ _ _ _ _ (flushed_page-is sizes A L p a) (in_flight_page-is sizes A L p a) (freed_page-is sizes A L p a) (cleaning_page-is sizes A L p a)

-- what a frame holds
pub held_after-is : (sizes : Sizes) (A L : List Step) (f : ℕ) → IsAccepted sizes (A ++ L) → held_after (base_of sizes A) L f ≡ held_of sizes (A ++ L) f
held_after-is sizes A L f a =
    ap (option_map (marked_after (base_of sizes A) L)) (last_entered_after-is sizes f A L) ∙ by_page (last_entered sizes f (A ++ L))
  where
    by_page : (o : Option ℕ) → option_map (marked_after (base_of sizes A) L) o ≡ option_map (marked sizes (A ++ L)) o
    by_page None = refl
    by_page (Some p) = ap Some (marked_after-is sizes A L p a)
