-- What holds of the pages of every accepted list.
use Rattle.std.proofs.Common.{◌≡◌, ℕ, ◌+◌, ◌-◌, ◌*◌, ◌/◌, ◌<◌, ◌≤◌, Bool, true, false, cond, not, ◌||◌, List, [], ◌∷◌, ◌++◌, refl, sym, ap, ◌∙◌, arith, inl, inr, ◌⊎◌}
use Rattle.std.specs.Prelude.{◌==◌, Option, Some, None}
use Rattle.std.proofs.Math.Nat.{mul-le-mul_right, div-mul-le_self, le_of_mul-le-mul_right}
use Rattle.std.proofs.lemmas.Nat.{le-div}
use Rattle.std.proofs.lemmas.Bool.{eqb-true, eqb-false, le-ltb, and_parts, or_cases, or_from, not-true, both_ways, cases_lt, false_from_ne_true}
use Rattle.hl_model.specs.declared.step.Step.{Step}
use Rattle.hl_model.specs.declared.step.Step.TheVariants.{FlushTake, FlushDone, CleanTake, CleanDone, Shift, Allocate}
use Rattle.hl_model.specs.Sizes.{Sizes}
use Rattle.hl_model.specs.Offsets.{shifted_to, head, tail, place_of, is_entered}
use Rattle.hl_model.specs.Settled.{safe_read_only, closed}
use Rattle.hl_model.specs.Pages.{Work, is_out, is_complete, next_page, marks, takes_to_flush, flush_of, flushes, flushing, takes_to_clean, clean_of, frees, cleaning, is_flushed, is_in_flight, is_freed, is_cleaning, flushed_run, flushed}
use Rattle.hl_model.specs.Frames.{may_enter}
use Rattle.hl_model.specs.Replies.{fault_of, IsAccepted}
use Rattle.hl_laws.proofs.AcceptedLaws.{accepted_has, IsAccepted-push}
use Rattle.hl_laws.proofs.WorkLaws.{is_complete-push, is_complete-nil, is_out-nil, is_out-take, is_out-end, is_out-stay, is_out-idle, next_page-parts, is_freed-stays, flush_done-none, clean_done-none}
use Rattle.hl_laws.proofs.NoFaultLaws.{shift-none}
use Rattle.hl_laws.proofs.RunLaws.{flushed_run-passes, flushed-grows}
use Rattle.hl_laws.proofs.FrameLaws.{HasRoom, allocate-room, is_entered-allocate, is_entered-stay}
use Rattle.hl_laws.proofs.OffsetLaws.{head-push, head-nil, tail-nil}
use Rattle.hl_laws.proofs.BoundLaws.{safe_read_only-append, closed-append, closed-le-head}

-- work whose due pages only become more, and whose steps end what is out
pub record Lawful (sizes : Sizes) (work : Work) : Type 0 where
  pub grows : (A : List Step) (s : Step) → IsAccepted sizes (A ++ s ∷ []) → work.due A ≤ work.due (A ++ s ∷ [])
  pub takes_nothing : (s : Step) (p : ℕ) → work.ends s ≡ Some p → work.takes s ≡ false
  pub completes_ends : (s : Step) (p : ℕ) → work.completes p s ≡ true → work.ends s ≡ Some p
  pub ends_out : (A : List Step) (s : Step) (p : ℕ) → fault_of sizes A s ≡ None → work.ends s ≡ Some p → is_out p (marks work A) ≡ true

-- a page that is out after a step was taken by it, or was out before and isn't ended by it
out_parts : (work : Work) (A : List Step) (s : Step) (p : ℕ) → is_out p (marks work (A ++ s ∷ [])) ≡ true → (next_page work A (marks work A) ≡ Some p × work.takes s ≡ true) ⊎ (is_out p (marks work A) ≡ true × (work.takes s ≡ false → work.ends s ≡ Some p → ⊥))
out_parts work A s p h = by_kind (work.takes s) (next_page work A (marks work A)) (work.ends s) refl refl refl
  where
    by_kind : (b : Bool) (n e : Option ℕ) → work.takes s ≡ b → next_page work A (marks work A) ≡ n → work.ends s ≡ e → (next_page work A (marks work A) ≡ Some p × work.takes s ≡ true) ⊎ (is_out p (marks work A) ≡ true × (work.takes s ≡ false → work.ends s ≡ Some p → ⊥))
    by_kind true None e t n is = inr (sym (is_out-idle work A s p t n) ∙ h, λ f. absurd (both_ways (work.takes s) f t))
    by_kind true (Some q) e t n is = by_part (or_cases (q == p) (is_out p (marks work A)) (sym (is_out-take work A s q p t n) ∙ h))
      where
        by_part : (((q == p) ≡ true) ⊎ (is_out p (marks work A) ≡ true)) → (next_page work A (marks work A) ≡ Some p × work.takes s ≡ true) ⊎ (is_out p (marks work A) ≡ true × (work.takes s ≡ false → work.ends s ≡ Some p → ⊥))
        by_part (inl same) = inl (n ∙ ap Some (eqb-true q p same), t)
        by_part (inr old) = inr (old, λ f. absurd (both_ways (work.takes s) f t))
    by_kind false n None t m is = inr (sym (is_out-stay work A s p t is) ∙ h, λ f some. let no : None ≡ Some p = sym is ∙ some in cc)
    by_kind false n (Some q) t m is =
        let parts : (not (q == p) ≡ true) × (is_out p (marks work A) ≡ true) = and_parts (not (q == p)) (is_out p (marks work A)) (sym (is_out-end work A s q p t is) ∙ h) in
        inr (parts.1, λ f some. let same : Some q ≡ Some p = sym is ∙ some in let one : q ≡ p = cc in eqb-false q p (not-true (q == p) parts.0) one)

-- what is out is due
pub out_due : (sizes : Sizes) (work : Work) (p : ℕ) → Lawful sizes work → (A : List Step) → IsAccepted sizes A → is_out p (marks work A) ≡ true → p < work.due A
out_due sizes work p lawful = accepted_has sizes (λ A. is_out p (marks work A) ≡ true → p < work.due A) (λ h. absurd (both_ways (is_out p (marks work [])) (is_out-nil work p) h)) step
  where
    step : (A : List Step) (s : Step) → IsAccepted sizes A → fault_of sizes A s ≡ None → (is_out p (marks work A) ≡ true → p < work.due A) → is_out p (marks work (A ++ s ∷ [])) ≡ true → p < work.due (A ++ s ∷ [])
    step A s a f before h = by_part (out_parts work A s p h)
      where
        more : work.due A ≤ work.due (A ++ s ∷ [])
        more = lawful.grows A s (IsAccepted-push sizes A s a f)

        by_part : ((next_page work A (marks work A) ≡ Some p × work.takes s ≡ true) ⊎ (is_out p (marks work A) ≡ true × (work.takes s ≡ false → work.ends s ≡ Some p → ⊥))) → p < work.due (A ++ s ∷ [])
        by_part (inl new) = omega (arith, more, (next_page-parts work A (marks work A) p new.0).0)
        by_part (inr old) = omega (arith, more, before old.0)

-- what is complete was due
pub complete_due : (sizes : Sizes) (work : Work) (p : ℕ) → Lawful sizes work → (A : List Step) → IsAccepted sizes A → is_complete work p A ≡ true → p < work.due A
complete_due sizes work p lawful = accepted_has sizes (λ A. is_complete work p A ≡ true → p < work.due A) (λ h. absurd (both_ways (is_complete work p []) (is_complete-nil work p) h)) step
  where
    step : (A : List Step) (s : Step) → IsAccepted sizes A → fault_of sizes A s ≡ None → (is_complete work p A ≡ true → p < work.due A) → is_complete work p (A ++ s ∷ []) ≡ true → p < work.due (A ++ s ∷ [])
    step A s a f before h = by_part (or_cases (is_complete work p A) (work.completes p s) (sym (is_complete-push work p A s) ∙ h))
      where
        more : work.due A ≤ work.due (A ++ s ∷ [])
        more = lawful.grows A s (IsAccepted-push sizes A s a f)

        by_part : ((is_complete work p A ≡ true) ⊎ (work.completes p s ≡ true)) → p < work.due (A ++ s ∷ [])
        by_part (inl old) = omega (arith, more, before old)
        by_part (inr new) = omega (arith, more, out_due sizes work p lawful A a (lawful.ends_out A s p f (lawful.completes_ends s p new)))

-- what is out isn't complete
out_incomplete : (sizes : Sizes) (work : Work) (p : ℕ) → Lawful sizes work → (A : List Step) → IsAccepted sizes A → is_out p (marks work A) ≡ true → is_complete work p A ≡ false
out_incomplete sizes work p lawful = accepted_has sizes (λ A. is_out p (marks work A) ≡ true → is_complete work p A ≡ false) (λ h. is_complete-nil work p) step
  where
    step : (A : List Step) (s : Step) → IsAccepted sizes A → fault_of sizes A s ≡ None → (is_out p (marks work A) ≡ true → is_complete work p A ≡ false) → is_out p (marks work (A ++ s ∷ [])) ≡ true → is_complete work p (A ++ s ∷ []) ≡ false
    step A s a f before h = by_part (out_parts work A s p h)
      where
        by_part : ((next_page work A (marks work A) ≡ Some p × work.takes s ≡ true) ⊎ (is_out p (marks work A) ≡ true × (work.takes s ≡ false → work.ends s ≡ Some p → ⊥))) → is_complete work p (A ++ s ∷ []) ≡ false
        by_part (inl new) =
            is_complete-push work p A s
            ∙ or_from (is_complete work p A) (work.completes p s) (next_page-parts work A (marks work A) p new.0).1
            (false_from_ne_true (work.completes p s) (λ c. both_ways (work.takes s) (lawful.takes_nothing s p (lawful.completes_ends s p c)) new.1))
        by_part (inr old) =
            is_complete-push work p A s
            ∙ or_from (is_complete work p A) (work.completes p s) (before old.0)
            (false_from_ne_true (work.completes p s) (λ c. old.1 (lawful.takes_nothing s p (lawful.completes_ends s p c)) (lawful.completes_ends s p c)))

-- fewer pages end at or below a lower address
pub pages_more : (page_size a b : ℕ) → 0 < page_size → a ≤ b → a / page_size ≤ b / page_size
pages_more page_size a b some le = le-div (a / page_size) b page_size some (omega (arith, div-mul-le_self a page_size))

-- a page below the number of those that end at or below an address ends there too
pub ends_below : (page_size a p : ℕ) → p < a / page_size → (p + 1) * page_size ≤ a
ends_below page_size a p lt =
    let upper : p + 1 ≤ a / page_size = omega arith in
    let step : (p + 1) * page_size ≤ a / page_size * page_size = mul-le-mul_right page_size upper in
    omega (arith, div-mul-le_self a page_size)

pub flush_takes_nothing : (s : Step) (p : ℕ) → flush_of s ≡ Some p → takes_to_flush s ≡ false
flush_takes_nothing FlushTake p h = cc
flush_takes_nothing _ p h = refl

pub flushes_flush_of : (s : Step) (p : ℕ) → flushes p s ≡ true → flush_of s ≡ Some p
flushes_flush_of (FlushDone page ok) p h =
    let parts : ((page == p) ≡ true) × (ok ≡ true) = and_parts (page == p) ok h in
    ap Some (eqb-true page p parts.0)
flushes_flush_of _ p h = cc

pub flush_was_out : (sizes : Sizes) (A : List Step) (s : Step) (p : ℕ) → fault_of sizes A s ≡ None → flush_of s ≡ Some p → is_in_flight sizes p A ≡ true
flush_was_out sizes A (FlushDone page ok) p h e = let same : page ≡ p = cc in ap (λ q. is_in_flight sizes q A) (sym same) ∙ flush_done-none sizes A page ok h
flush_was_out sizes A _ p h e = cc

flushing_lawful : (sizes : Sizes) → 0 < sizes.page_size → Lawful sizes (flushing sizes)
flushing_lawful sizes some = record {
  grows = λ A s a. pages_more sizes.page_size (safe_read_only A) (safe_read_only (A ++ s ∷ [])) some (safe_read_only-append sizes A (s ∷ []) a);
  takes_nothing = flush_takes_nothing;
  completes_ends = flushes_flush_of;
  ends_out = flush_was_out sizes;
}

pub clean_takes_nothing : (s : Step) (p : ℕ) → clean_of s ≡ Some p → takes_to_clean s ≡ false
clean_takes_nothing CleanTake p h = cc
clean_takes_nothing _ p h = refl

pub frees_clean_of : (s : Step) (p : ℕ) → frees p s ≡ true → clean_of s ≡ Some p
frees_clean_of (CleanDone page) p h = ap Some (eqb-true page p h)
frees_clean_of _ p h = cc

pub clean_was_out : (sizes : Sizes) (A : List Step) (s : Step) (p : ℕ) → fault_of sizes A s ≡ None → clean_of s ≡ Some p → is_cleaning sizes p A ≡ true
clean_was_out sizes A (CleanDone page) p h e = let same : page ≡ p = cc in ap (λ q. is_cleaning sizes q A) (sym same) ∙ clean_done-none sizes A page h
clean_was_out sizes A _ p h e = cc

cleaning_lawful : (sizes : Sizes) → 0 < sizes.page_size → Lawful sizes (cleaning sizes)
cleaning_lawful sizes some = record {
  grows = λ A s a. pages_more sizes.page_size (closed A) (closed (A ++ s ∷ [])) some (closed-append sizes A (s ∷ []) a);
  takes_nothing = clean_takes_nothing;
  completes_ends = frees_clean_of;
  ends_out = clean_was_out sizes;
}

-- flushed pages are sealed
pub flushed_sealed : (sizes : Sizes) (A : List Step) (p : ℕ) → 0 < sizes.page_size → IsAccepted sizes A → is_flushed sizes p A ≡ true → (p + 1) * sizes.page_size ≤ safe_read_only A
flushed_sealed sizes A p some a h = ends_below sizes.page_size (safe_read_only A) p (complete_due sizes (flushing sizes) p (flushing_lawful sizes some) A a h)

-- so are those in flight
pub in_flight_sealed : (sizes : Sizes) (A : List Step) (p : ℕ) → 0 < sizes.page_size → IsAccepted sizes A → is_in_flight sizes p A ≡ true → (p + 1) * sizes.page_size ≤ safe_read_only A
in_flight_sealed sizes A p some a h = ends_below sizes.page_size (safe_read_only A) p (out_due sizes (flushing sizes) p (flushing_lawful sizes some) A a h)

-- which aren't flushed
pub in_flight_unflushed : (sizes : Sizes) (A : List Step) (p : ℕ) → 0 < sizes.page_size → IsAccepted sizes A → is_in_flight sizes p A ≡ true → is_flushed sizes p A ≡ false
in_flight_unflushed sizes A p some a h = out_incomplete sizes (flushing sizes) p (flushing_lawful sizes some) A a h

-- freed pages are closed
pub freed_closed : (sizes : Sizes) (A : List Step) (p : ℕ) → 0 < sizes.page_size → IsAccepted sizes A → is_freed sizes p A ≡ true → (p + 1) * sizes.page_size ≤ closed A
freed_closed sizes A p some a h = ends_below sizes.page_size (closed A) p (complete_due sizes (cleaning sizes) p (cleaning_lawful sizes some) A a h)

-- so are those being cleaned
pub cleaning_closed : (sizes : Sizes) (A : List Step) (p : ℕ) → 0 < sizes.page_size → IsAccepted sizes A → is_cleaning sizes p A ≡ true → (p + 1) * sizes.page_size ≤ closed A
cleaning_closed sizes A p some a h = ends_below sizes.page_size (closed A) p (out_due sizes (cleaning sizes) p (cleaning_lawful sizes some) A a h)

-- which aren't freed
pub cleaning_unfreed : (sizes : Sizes) (A : List Step) (p : ℕ) → 0 < sizes.page_size → IsAccepted sizes A → is_cleaning sizes p A ≡ true → is_freed sizes p A ≡ false
cleaning_unfreed sizes A p some a h = out_incomplete sizes (cleaning sizes) p (cleaning_lawful sizes some) A a h

-- the flushed offset is at most the safe read-only one
pub flushed-le-safe_read_only : (sizes : Sizes) (A : List Step) → 0 < sizes.page_size → IsAccepted sizes A → flushed sizes A ≤ safe_read_only A
flushed-le-safe_read_only sizes A some a = by_order (cases_lt 0 (flushed_run sizes A))
  where
    by_order : ((0 < flushed_run sizes A) ⊎ (flushed_run sizes A ≤ 0)) → flushed sizes A ≤ safe_read_only A
    by_order (inl lt) =
        let last : is_flushed sizes (flushed_run sizes A - 1) A ≡ true = flushed_run-passes sizes A (flushed_run sizes A - 1) (omega arith) in
        let sealed : (flushed_run sizes A - 1 + 1) * sizes.page_size ≤ safe_read_only A = flushed_sealed sizes A (flushed_run sizes A - 1) some a last in
        let whole : flushed_run sizes A - 1 + 1 ≡ flushed_run sizes A = omega arith in
        let same : (flushed_run sizes A - 1 + 1) * sizes.page_size ≡ flushed_run sizes A * sizes.page_size = ap (λ n. n * sizes.page_size) whole in
        let swap : flushed_run sizes A * sizes.page_size ≡ sizes.page_size * flushed_run sizes A = omega arith in
        omega arith
    by_order (inr none) =
        let zero_run : flushed_run sizes A ≡ 0 = omega arith in
        let nothing : sizes.page_size * flushed_run sizes A ≡ sizes.page_size * 0 = ap (λ n. sizes.page_size * n) zero_run in
        omega arith

shifted_flushed : (sizes : Sizes) (A : List Step) (s : Step) → fault_of sizes A s ≡ None → shifted_to s ≤ flushed sizes A
shifted_flushed sizes A (Shift x) h = (shift-none sizes A x h).2
shifted_flushed sizes A _ h = omega arith

-- the head is at most the flushed offset
pub head-le-flushed : (sizes : Sizes) (A : List Step) → IsAccepted sizes A → head A ≤ flushed sizes A
head-le-flushed sizes = accepted_has sizes (λ A. head A ≤ flushed sizes A) (omega (arith, head-nil))
    (λ A s a h before. omega (arith, head-push A s, shifted_flushed sizes A s h, flushed-grows sizes A s))

-- closed pages are flushed
pub closed_flushed : (sizes : Sizes) (A : List Step) (p : ℕ) → 0 < sizes.page_size → IsAccepted sizes A → (p + 1) * sizes.page_size ≤ closed A → is_flushed sizes p A ≡ true
closed_flushed sizes A p some a h =
    let reached : (p + 1) * sizes.page_size ≤ sizes.page_size * flushed_run sizes A = omega (arith, h, closed-le-head sizes A a, head-le-flushed sizes A a) in
    let swap : sizes.page_size * flushed_run sizes A ≡ flushed_run sizes A * sizes.page_size = omega arith in
    let within : p + 1 ≤ flushed_run sizes A = le_of_mul-le-mul_right {k = sizes.page_size} (omega arith) some in
    flushed_run-passes sizes A p (omega arith)

-- a page that is entered after an accepted step was entered before, or might be
entered_or_may : (sizes : Sizes) (q : ℕ) (A : List Step) (s : Step) → 0 < sizes.page_size → fault_of sizes A s ≡ None → is_entered sizes q (A ++ s ∷ []) ≡ true → (is_entered sizes q A ≡ true) ⊎ (may_enter sizes q A ≡ true)
entered_or_may sizes q A (Allocate t n) some h e = by_part (or_cases (is_entered sizes q A) (q == place_of sizes.page_size (tail sizes A) n / sizes.page_size) (sym (is_entered-allocate sizes q A t n some room.least room.most) ∙ e))
  where
    room : HasRoom sizes A n
    room = allocate-room sizes A t n h

    by_part : ((is_entered sizes q A ≡ true) ⊎ ((q == place_of sizes.page_size (tail sizes A) n / sizes.page_size) ≡ true)) → (is_entered sizes q A ≡ true) ⊎ (may_enter sizes q A ≡ true)
    by_part (inl old) = inl old
    by_part (inr new) =
        or_cases (is_entered sizes q A) (may_enter sizes q A)
        (ap (λ p. is_entered sizes p A || may_enter sizes p A) (eqb-true q (place_of sizes.page_size (tail sizes A) n / sizes.page_size) new) ∙ room.enters)
entered_or_may sizes q A s some h e = inl (sym (is_entered-stay sizes q A s refl) ∙ e)

-- a page of a used frame may be entered where the frame's page before it is freed
pub may_enter-freed : (sizes : Sizes) (q : ℕ) (A : List Step) → sizes.frames ≤ q → may_enter sizes q A ≡ true → is_freed sizes (q - sizes.frames) A ≡ true
may_enter-freed sizes q A le h = sym (ap (λ b. cond b true (is_freed sizes (q - sizes.frames) A)) (le-ltb q sizes.frames le)) ∙ h

is_entered-nil : (sizes : Sizes) (q : ℕ) → is_entered sizes q [] ≡ false
is_entered-nil sizes q = le-ltb (q * sizes.page_size) (tail sizes []) (omega (arith, tail-nil sizes))

-- a frame's page is freed before its next one is entered
pub round_freed : (sizes : Sizes) (q : ℕ) → 0 < sizes.page_size → sizes.frames ≤ q → (A : List Step) → IsAccepted sizes A → is_entered sizes q A ≡ true → is_freed sizes (q - sizes.frames) A ≡ true
round_freed sizes q some le = accepted_has sizes (λ A. is_entered sizes q A ≡ true → is_freed sizes (q - sizes.frames) A ≡ true) (λ h. absurd (both_ways (is_entered sizes q []) (is_entered-nil sizes q) h)) step
  where
    step : (A : List Step) (s : Step) → IsAccepted sizes A → fault_of sizes A s ≡ None → (is_entered sizes q A ≡ true → is_freed sizes (q - sizes.frames) A ≡ true) → is_entered sizes q (A ++ s ∷ []) ≡ true → is_freed sizes (q - sizes.frames) (A ++ s ∷ []) ≡ true
    step A s a f before h = is_freed-stays sizes (q - sizes.frames) A s (by_part (entered_or_may sizes q A s some f h))
      where
        by_part : ((is_entered sizes q A ≡ true) ⊎ (may_enter sizes q A ≡ true)) → is_freed sizes (q - sizes.frames) A ≡ true
        by_part (inl old) = before old
        by_part (inr may) = may_enter-freed sizes q A le may

-- what holds of the pages of an accepted list
pub record PagesKept (sizes : Sizes) (A : List Step) : Type 0 where
  pub flushed_sealed : (p : ℕ) → is_flushed sizes p A ≡ true → (p + 1) * sizes.page_size ≤ safe_read_only A
  pub in_flight_sealed : (p : ℕ) → is_in_flight sizes p A ≡ true → (p + 1) * sizes.page_size ≤ safe_read_only A
  pub in_flight_unflushed : (p : ℕ) → is_in_flight sizes p A ≡ true → is_flushed sizes p A ≡ false
  pub freed_closed : (p : ℕ) → is_freed sizes p A ≡ true → (p + 1) * sizes.page_size ≤ closed A
  pub cleaning_closed : (p : ℕ) → is_cleaning sizes p A ≡ true → (p + 1) * sizes.page_size ≤ closed A
  pub cleaning_unfreed : (p : ℕ) → is_cleaning sizes p A ≡ true → is_freed sizes p A ≡ false
  pub closed_flushed : (p : ℕ) → (p + 1) * sizes.page_size ≤ closed A → is_flushed sizes p A ≡ true
  pub round_freed : (q : ℕ) → sizes.frames ≤ q → is_entered sizes q A ≡ true → is_freed sizes (q - sizes.frames) A ≡ true

-- all of it
pub pages_kept : (sizes : Sizes) (A : List Step) → 0 < sizes.page_size → 0 < sizes.frames → IsAccepted sizes A → PagesKept sizes A
pages_kept sizes A page_size frames a = record {
  flushed_sealed = λ p. flushed_sealed sizes A p page_size a;
  in_flight_sealed = λ p. in_flight_sealed sizes A p page_size a;
  in_flight_unflushed = λ p. in_flight_unflushed sizes A p page_size a;
  freed_closed = λ p. freed_closed sizes A p page_size a;
  cleaning_closed = λ p. cleaning_closed sizes A p page_size a;
  cleaning_unfreed = λ p. cleaning_unfreed sizes A p page_size a;
  closed_flushed = λ p. closed_flushed sizes A p page_size a;
  round_freed = λ q le. round_freed sizes q page_size le A a;
}
