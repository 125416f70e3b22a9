-- What flushing and cleaning become when one step is put behind the list: both are the same kind of work.
use Rattle.std.proofs.Common.{◌≡◌, ℕ, ◌+◌, ◌<◌, ◌≤◌, Bool, true, false, cond, not, ◌&&◌, ◌||◌, ltb, List, [], ◌∷◌, ◌++◌, length, refl, ap, ap₂, ◌∙◌, arith, append-nil, inl, inr, ◌⊎◌}
use Rattle.std.specs.Prelude.{◌==◌, Option, Some, None}
use Rattle.std.proofs.lemmas.Bool.{lt-ltb, le-ltb, not-true, not-false, or_parts, or_left, or_from, both_ways, cases_order}
use Rattle.std.proofs.Math.Bool.{or-false}
use Rattle.hl_model.specs.declared.fault.Fault.TheVariants.{NotInFlight, NotCleaning}
use Rattle.hl_model.specs.declared.step.Step.{Step}
use Rattle.hl_model.specs.declared.step.Step.TheVariants.{FlushTake, FlushDone, CleanTake, CleanDone}
use Rattle.hl_model.specs.Lists.{until_last, unroll, unroll_after}
use Rattle.hl_model.specs.Sizes.{Sizes}
use Rattle.hl_model.specs.Pages.{Work, Mark, Out, Back, goes_out, comes_back, is_out, is_complete, next_page, mark_if, marks_of, marks, takes_to_flush, flush_of, flushes, flushing, takes_to_clean, clean_of, frees, cleaning, is_flushed, is_in_flight, is_freed, is_cleaning, next_to_flush, next_to_clean}
use Rattle.hl_model.specs.Replies.{fault_of}
use Rattle.hl_model.proofs.ListLaws.{list_any-push, until_last-push, until_last-le, unroll-push, find-range, find-range-least, find-range-none}
use Rattle.hl_laws.proofs.NoFaultLaws.{met_fault}

-- a step completes some pages
pub is_complete-push : (work : Work) (p : ℕ) (A : List Step) (s : Step) → is_complete work p (A ++ s ∷ []) ≡ (is_complete work p A || work.completes p s)
unfolding is_complete
is_complete-push work p A s = list_any-push (work.completes p) A s

-- of no steps none is complete
pub is_complete-nil : (work : Work) (p : ℕ) → is_complete work p [] ≡ false
unfolding is_complete
is_complete-nil work p = refl

-- each step's mark comes behind those before
pub marks-push : (work : Work) (A : List Step) (s : Step) → marks work (A ++ s ∷ []) ≡ marks work A ++ marks_of work A (marks work A) s
unfolding marks
marks-push work A s = unroll-push (marks_of work) A s

out_core : (b : Bool) (back out n : ℕ) → back ≤ n → ltb back (cond b (n + 1) out) ≡ (b || ltb back out)
out_core true back out n le = lt-ltb back (n + 1) (omega arith)
out_core false back out n le = refl

back_core : (b : Bool) (back out n : ℕ) → out ≤ n → ltb (cond b (n + 1) back) out ≡ (not b && ltb back out)
back_core true back out n le = le-ltb (n + 1) out (omega arith)
back_core false back out n le = refl

-- page q goes out
pub is_out-out : (p : ℕ) (ms : List Mark) (q : ℕ) → is_out p (ms ++ Out q ∷ []) ≡ (q == p || is_out p ms)
unfolding is_out
is_out-out p ms q =
    ap₂ (λ back out. ltb back out) (until_last-push (comes_back p) ms (Out q)) (until_last-push (goes_out p) ms (Out q))
    ∙ out_core (q == p) (until_last (comes_back p) ms) (until_last (goes_out p) ms) (length ms) (until_last-le (comes_back p) ms)

-- page q comes back
pub is_out-back : (p : ℕ) (ms : List Mark) (q : ℕ) → is_out p (ms ++ Back q ∷ []) ≡ (not (q == p) && is_out p ms)
unfolding is_out
is_out-back p ms q =
    ap₂ (λ back out. ltb back out) (until_last-push (comes_back p) ms (Back q)) (until_last-push (goes_out p) ms (Back q))
    ∙ back_core (q == p) (until_last (comes_back p) ms) (until_last (goes_out p) ms) (length ms) (until_last-le (goes_out p) ms)

-- of no steps none is out
pub is_out-nil : (work : Work) (p : ℕ) → is_out p (marks work []) ≡ false
unfolding is_out marks unroll unroll_after until_last
is_out-nil work p = refl

-- a take of page q
pub is_out-take : (work : Work) (A : List Step) (s : Step) (q p : ℕ) → work.takes s ≡ true → next_page work A (marks work A) ≡ Some q → is_out p (marks work (A ++ s ∷ [])) ≡ (q == p || is_out p (marks work A))
is_out-take work A s q p t n =
    ap (is_out p) (marks-push work A s ∙ ap (λ l. marks work A ++ l) (ap₂ (λ b o. cond b (mark_if Out o) (mark_if Back (work.ends s))) t n))
    ∙ is_out-out p (marks work A) q

-- an end of page q
pub is_out-end : (work : Work) (A : List Step) (s : Step) (q p : ℕ) → work.takes s ≡ false → work.ends s ≡ Some q → is_out p (marks work (A ++ s ∷ [])) ≡ (not (q == p) && is_out p (marks work A))
is_out-end work A s q p t e =
    ap (is_out p) (marks-push work A s ∙ ap (λ l. marks work A ++ l) (ap₂ (λ b o. cond b (mark_if Out (next_page work A (marks work A))) (mark_if Back o)) t e))
    ∙ is_out-back p (marks work A) q

-- any other step
pub is_out-stay : (work : Work) (A : List Step) (s : Step) (p : ℕ) → work.takes s ≡ false → work.ends s ≡ None → is_out p (marks work (A ++ s ∷ [])) ≡ is_out p (marks work A)
is_out-stay work A s p t e =
    ap (is_out p) (marks-push work A s ∙ ap (λ l. marks work A ++ l) (ap₂ (λ b o. cond b (mark_if Out (next_page work A (marks work A))) (mark_if Back o)) t e) ∙ append-nil (marks work A))

-- a take where no page is to be taken
pub is_out-idle : (work : Work) (A : List Step) (s : Step) (p : ℕ) → work.takes s ≡ true → next_page work A (marks work A) ≡ None → is_out p (marks work (A ++ s ∷ [])) ≡ is_out p (marks work A)
is_out-idle work A s p t n =
    ap (is_out p) (marks-push work A s ∙ ap (λ l. marks work A ++ l) (ap₂ (λ b o. cond b (mark_if Out o) (mark_if Back (work.ends s))) t n) ∙ append-nil (marks work A))

-- what a step flushes
pub is_flushed-push : (sizes : Sizes) (p : ℕ) (A : List Step) (s : Step) → is_flushed sizes p (A ++ s ∷ []) ≡ (is_flushed sizes p A || flushes p s)
is_flushed-push sizes p A s = is_complete-push (flushing sizes) p A s

-- what a step frees
pub is_freed-push : (sizes : Sizes) (p : ℕ) (A : List Step) (s : Step) → is_freed sizes p (A ++ s ∷ []) ≡ (is_freed sizes p A || frees p s)
is_freed-push sizes p A s = is_complete-push (cleaning sizes) p A s

-- a step that flushes no page leaves which are flushed
pub is_flushed-stay : (sizes : Sizes) (A : List Step) (s : Step) (p : ℕ) → flushes p s ≡ false → is_flushed sizes p (A ++ s ∷ []) ≡ is_flushed sizes p A
is_flushed-stay sizes A s p h = is_flushed-push sizes p A s ∙ ap (λ b. is_flushed sizes p A || b) h ∙ or-false (is_flushed sizes p A)

-- one that frees no page leaves which are freed
pub is_freed-stay : (sizes : Sizes) (A : List Step) (s : Step) (p : ℕ) → frees p s ≡ false → is_freed sizes p (A ++ s ∷ []) ≡ is_freed sizes p A
is_freed-stay sizes A s p h = is_freed-push sizes p A s ∙ ap (λ b. is_freed sizes p A || b) h ∙ or-false (is_freed sizes p A)

-- flushed pages stay flushed
pub is_flushed-stays : (sizes : Sizes) (p : ℕ) (A : List Step) (s : Step) → is_flushed sizes p A ≡ true → is_flushed sizes p (A ++ s ∷ []) ≡ true
is_flushed-stays sizes p A s h = is_flushed-push sizes p A s ∙ or_left (is_flushed sizes p A) (flushes p s) h

-- freed pages stay freed
pub is_freed-stays : (sizes : Sizes) (p : ℕ) (A : List Step) (s : Step) → is_freed sizes p A ≡ true → is_freed sizes p (A ++ s ∷ []) ≡ true
is_freed-stays sizes p A s h = is_freed-push sizes p A s ∙ or_left (is_freed sizes p A) (frees p s) h

-- a flush take
pub is_in_flight-take : (sizes : Sizes) (A : List Step) (q p : ℕ) → next_to_flush sizes A ≡ Some q → is_in_flight sizes p (A ++ FlushTake ∷ []) ≡ (q == p || is_in_flight sizes p A)
is_in_flight-take sizes A q p n = is_out-take (flushing sizes) A FlushTake q p refl n

-- the end of a flush
pub is_in_flight-done : (sizes : Sizes) (A : List Step) (q : ℕ) (ok : Bool) (p : ℕ) → is_in_flight sizes p (A ++ FlushDone q ok ∷ []) ≡ (not (q == p) && is_in_flight sizes p A)
is_in_flight-done sizes A q ok p = is_out-end (flushing sizes) A (FlushDone q ok) q p refl refl

-- any other step
pub is_in_flight-stay : (sizes : Sizes) (A : List Step) (s : Step) (p : ℕ) → takes_to_flush s ≡ false → flush_of s ≡ None → is_in_flight sizes p (A ++ s ∷ []) ≡ is_in_flight sizes p A
is_in_flight-stay sizes A s p t e = is_out-stay (flushing sizes) A s p t e

-- a clean take
pub is_cleaning-take : (sizes : Sizes) (A : List Step) (q p : ℕ) → next_to_clean sizes A ≡ Some q → is_cleaning sizes p (A ++ CleanTake ∷ []) ≡ (q == p || is_cleaning sizes p A)
is_cleaning-take sizes A q p n = is_out-take (cleaning sizes) A CleanTake q p refl n

-- the end of a cleaning
pub is_cleaning-done : (sizes : Sizes) (A : List Step) (q p : ℕ) → is_cleaning sizes p (A ++ CleanDone q ∷ []) ≡ (not (q == p) && is_cleaning sizes p A)
is_cleaning-done sizes A q p = is_out-end (cleaning sizes) A (CleanDone q) q p refl refl

-- any other step
pub is_cleaning-stay : (sizes : Sizes) (A : List Step) (s : Step) (p : ℕ) → takes_to_clean s ≡ false → clean_of s ≡ None → is_cleaning sizes p (A ++ s ∷ []) ≡ is_cleaning sizes p A
is_cleaning-stay sizes A s p t e = is_out-stay (cleaning sizes) A s p t e

-- the next page is due, and neither complete nor out
pub next_page-parts : (work : Work) (A : List Step) (ms : List Mark) (q : ℕ) → next_page work A ms ≡ Some q → (q < work.due A) × (is_complete work q A ≡ false) × (is_out q ms ≡ false)
unfolding next_page
next_page-parts work A ms q h =
    let found : (not (is_complete work q A || is_out q ms) ≡ true) × (0 ≤ q) × (q < 0 + work.due A) = find-range (λ p. not (is_complete work p A || is_out p ms)) 0 (work.due A) q h in
    let parts : (is_complete work q A ≡ false) × (is_out q ms ≡ false) = or_parts (is_complete work q A) (is_out q ms) (not-true (is_complete work q A || is_out q ms) found.0) in
    (omega (arith, found.2), parts.0, parts.1)

-- each due page below it is complete or out
pub next_page-least : (work : Work) (A : List Step) (ms : List Mark) (q p : ℕ) → next_page work A ms ≡ Some q → p < q → (is_complete work p A || is_out p ms) ≡ true
unfolding next_page
next_page-least work A ms q p h lt =
    not-false (is_complete work p A || is_out p ms) (find-range-least (λ p. not (is_complete work p A || is_out p ms)) 0 (work.due A) q p h (omega arith) lt)

-- where there is no next page, each due one is complete or out
pub next_page-none : (work : Work) (A : List Step) (ms : List Mark) (p : ℕ) → next_page work A ms ≡ None → p < work.due A → (is_complete work p A || is_out p ms) ≡ true
unfolding next_page
next_page-none work A ms p h lt =
    not-false (is_complete work p A || is_out p ms) (find-range-none (λ p. not (is_complete work p A || is_out p ms)) 0 (work.due A) p h (omega arith) (omega arith))

-- the least due page that is neither complete nor out is the next
pub next_page-is : (work : Work) (A : List Step) (ms : List Mark) (q : ℕ) → q < work.due A → is_complete work q A ≡ false → is_out q ms ≡ false → ((p : ℕ) → p < q → (is_complete work p A || is_out p ms) ≡ true) → next_page work A ms ≡ Some q
next_page-is work A ms q lt complete out below = by_result (next_page work A ms) refl
  where
    free : (is_complete work q A || is_out q ms) ≡ false
    free = or_from (is_complete work q A) (is_out q ms) complete out

    by_order : (m : ℕ) → next_page work A ms ≡ Some m → ((m ≡ q) ⊎ ((m < q) ⊎ (q < m))) → next_page work A ms ≡ Some q
    by_order m h (inl same) = h ∙ ap Some same
    by_order m h (inr (inl less)) =
        let parts : (m < work.due A) × (is_complete work m A ≡ false) × (is_out m ms ≡ false) = next_page-parts work A ms m h in
        absurd (both_ways (is_complete work m A || is_out m ms) (or_from (is_complete work m A) (is_out m ms) parts.1 parts.2) (below m less))
    by_order m h (inr (inr more)) = absurd (both_ways (is_complete work q A || is_out q ms) free (next_page-least work A ms m q h more))

    by_result : (o : Option ℕ) → next_page work A ms ≡ o → next_page work A ms ≡ Some q
    by_result None h = absurd (both_ways (is_complete work q A || is_out q ms) free (next_page-none work A ms q h lt))
    by_result (Some m) h = by_order m h (cases_order m q)

-- a flush that ends was in flight
pub flush_done-none : (sizes : Sizes) (A : List Step) (page : ℕ) (ok : Bool) → fault_of sizes A (FlushDone page ok) ≡ None → is_in_flight sizes page A ≡ true
flush_done-none sizes A page ok h = (met_fault (is_in_flight sizes page A) NotInFlight None h).0

-- a page whose cleaning ends was being cleaned
pub clean_done-none : (sizes : Sizes) (A : List Step) (page : ℕ) → fault_of sizes A (CleanDone page) ≡ None → is_cleaning sizes page A ≡ true
clean_done-none sizes A page h = (met_fault (is_cleaning sizes page A) NotCleaning None h).0
