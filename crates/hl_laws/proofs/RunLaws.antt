-- The run of flushed pages.
use Rattle.std.proofs.Common.{◌≡◌, ℕ, ◌+◌, ◌%◌, ◌<◌, ◌≤◌, Bool, true, false, List, [], ◌∷◌, ◌++◌, get_or, sym, ap, ◌∙◌, arith, inl, inr, ◌⊎◌}
use Rattle.std.specs.Prelude.{◌==◌}
use Rattle.std.specs.List.{prefix_len, range_with_len}
use Rattle.std.proofs.Math.Nat.{mul-le-mul_left, mul-mod_right}
use Rattle.std.proofs.lemmas.Bool.{eqb-true, and_parts, or_cases, or_from, both_ways, cases_lt, false_from_ne_true}
use Rattle.std.proofs.lemmas.List.FromFn.{length-range_with_len, get_or-range_with_len}
use Rattle.std.proofs.lemmas.List.Sums.{prefix_len-le-length, prefix_len_passes, prefix_len_stops}
use Rattle.hl_model.specs.declared.step.Step.{Step}
use Rattle.hl_model.specs.declared.step.Step.TheVariants.{FlushDone}
use Rattle.hl_model.specs.Lists.{greatest}
use Rattle.hl_model.specs.Sizes.{Sizes}
use Rattle.hl_model.specs.Pages.{flushing, flushes, is_flushed, flushes_below, flushed_run, flushed}
use Rattle.hl_model.proofs.ListLaws.{greatest-push, by_pushing, never_falls}
use Rattle.hl_laws.proofs.WorkLaws.{is_flushed-push, is_flushed-stays, is_complete-nil}

-- a page that a step flushes is below the step's number
flushes-below : (p : ℕ) (s : Step) → flushes p s ≡ true → flushes_below s ≡ p + 1
flushes-below p (FlushDone page true) h =
    let parts : ((page == p) ≡ true) × (true ≡ true) = and_parts (page == p) true h in
    ap (λ n. n + 1) (eqb-true page p parts.0)
flushes-below p (FlushDone page false) h =
    let parts : ((page == p) ≡ true) × (false ≡ true) = and_parts (page == p) false h in
    let no : false ≡ true = parts.1 in cc
flushes-below p _ h = cc

-- no page beyond the greatest flushed one is flushed
pub flushed-below : (sizes : Sizes) (p : ℕ) (A : List Step) → is_flushed sizes p A ≡ true → p < greatest flushes_below A
flushed-below sizes p = by_pushing (λ A. is_flushed sizes p A ≡ true → p < greatest flushes_below A) none step
  where
    none : is_flushed sizes p [] ≡ true → p < greatest flushes_below []
    none h = absurd (both_ways (is_flushed sizes p []) (is_complete-nil (flushing sizes) p) h)

    step : (A : List Step) (s : Step) → (is_flushed sizes p A ≡ true → p < greatest flushes_below A) → is_flushed sizes p (A ++ s ∷ []) ≡ true → p < greatest flushes_below (A ++ s ∷ [])
    step A s before h = by_part (or_cases (is_flushed sizes p A) (flushes p s) (sym (is_flushed-push sizes p A s) ∙ h))
      where
        by_part : ((is_flushed sizes p A ≡ true) ⊎ (flushes p s ≡ true)) → p < greatest flushes_below (A ++ s ∷ [])
        by_part (inl e) = omega (arith, before e, greatest-push flushes_below A s)
        by_part (inr e) = omega (arith, flushes-below p s e, greatest-push flushes_below A s)

pub run_passes : (test : ℕ → Bool) (n k : ℕ) → k < prefix_len test (range_with_len 0 n) → test k ≡ true
run_passes test n k h =
    let within : k < n = omega (arith, prefix_len-le-length test (range_with_len 0 n), length-range_with_len 0 n) in
    let there : get_or (range_with_len 0 n) k 0 ≡ k = omega (arith, get_or-range_with_len 0 n k 0 within) in
    ap test (sym there) ∙ prefix_len_passes test (range_with_len 0 n) k 0 h

pub run_fails : (test : ℕ → Bool) (n : ℕ) → test n ≡ false → test (prefix_len test (range_with_len 0 n)) ≡ false
run_fails test n none = by_order (cases_lt (prefix_len test (range_with_len 0 n)) n)
  where
    by_order : ((prefix_len test (range_with_len 0 n) < n) ⊎ (n ≤ prefix_len test (range_with_len 0 n))) → test (prefix_len test (range_with_len 0 n)) ≡ false
    by_order (inl lt) =
        let there : get_or (range_with_len 0 n) (prefix_len test (range_with_len 0 n)) 0 ≡ prefix_len test (range_with_len 0 n) = omega (arith, get_or-range_with_len 0 n (prefix_len test (range_with_len 0 n)) 0 lt) in
        ap test (sym there) ∙ prefix_len_stops test (range_with_len 0 n) 0 (omega (arith, length-range_with_len 0 n))
    by_order (inr ge) =
        let all : prefix_len test (range_with_len 0 n) ≡ n = omega (arith, prefix_len-le-length test (range_with_len 0 n), length-range_with_len 0 n) in
        ap test all ∙ none

-- the pages of the run are flushed
pub flushed_run-passes : (sizes : Sizes) (A : List Step) (p : ℕ) → p < flushed_run sizes A → is_flushed sizes p A ≡ true
unfolding flushed_run
flushed_run-passes sizes A p h = run_passes (λ p. is_flushed sizes p A) (greatest flushes_below A) p h

-- the page behind the run isn't
pub flushed_run-fails : (sizes : Sizes) (A : List Step) → is_flushed sizes (flushed_run sizes A) A ≡ false
unfolding flushed_run
flushed_run-fails sizes A =
    run_fails (λ p. is_flushed sizes p A) (greatest flushes_below A)
    (false_from_ne_true (is_flushed sizes (greatest flushes_below A) A) (λ e. omega (arith, flushed-below sizes (greatest flushes_below A) A e)))

-- the run ends where flushed pages end
pub flushed_run-is : (sizes : Sizes) (A : List Step) (n : ℕ) → ((p : ℕ) → p < n → is_flushed sizes p A ≡ true) → is_flushed sizes n A ≡ false → flushed_run sizes A ≡ n
flushed_run-is sizes A n passes fails = by_order (cases_lt (flushed_run sizes A) n) (cases_lt n (flushed_run sizes A))
  where
    by_order : ((flushed_run sizes A < n) ⊎ (n ≤ flushed_run sizes A)) → ((n < flushed_run sizes A) ⊎ (flushed_run sizes A ≤ n)) → flushed_run sizes A ≡ n
    by_order (inl lt) other = absurd (both_ways (is_flushed sizes (flushed_run sizes A) A) (flushed_run-fails sizes A) (passes (flushed_run sizes A) lt))
    by_order (inr ge) (inl gt) = absurd (both_ways (is_flushed sizes n A) fails (flushed_run-passes sizes A n gt))
    by_order (inr ge) (inr le) = omega arith

-- the run reaches as far as every page below is flushed
pub flushed_run-least : (sizes : Sizes) (A : List Step) (n : ℕ) → ((p : ℕ) → p < n → is_flushed sizes p A ≡ true) → n ≤ flushed_run sizes A
flushed_run-least sizes A n passes = by_order (cases_lt (flushed_run sizes A) n)
  where
    by_order : ((flushed_run sizes A < n) ⊎ (n ≤ flushed_run sizes A)) → n ≤ flushed_run sizes A
    by_order (inl lt) = absurd (both_ways (is_flushed sizes (flushed_run sizes A) A) (flushed_run-fails sizes A) (passes (flushed_run sizes A) lt))
    by_order (inr ge) = ge

-- the run never shrinks
pub flushed_run-grows : (sizes : Sizes) (A : List Step) (s : Step) → flushed_run sizes A ≤ flushed_run sizes (A ++ s ∷ [])
flushed_run-grows sizes A s =
    flushed_run-least sizes (A ++ s ∷ []) (flushed_run sizes A)
    (λ p h. is_flushed-stays sizes p A s (flushed_run-passes sizes A p h))

-- a step that flushes no page leaves the run
pub flushed_run-stay : (sizes : Sizes) (A : List Step) (s : Step) → ((p : ℕ) → flushes p s ≡ false) → flushed_run sizes (A ++ s ∷ []) ≡ flushed_run sizes A
flushed_run-stay sizes A s quiet =
    flushed_run-is sizes (A ++ s ∷ []) (flushed_run sizes A)
    (λ p h. is_flushed-stays sizes p A s (flushed_run-passes sizes A p h))
    (is_flushed-push sizes (flushed_run sizes A) A s ∙ or_from (is_flushed sizes (flushed_run sizes A) A) (flushes (flushed_run sizes A) s) (flushed_run-fails sizes A) (quiet (flushed_run sizes A)))

-- nor does the flushed offset fall
pub flushed-grows : (sizes : Sizes) (A : List Step) (s : Step) → flushed sizes A ≤ flushed sizes (A ++ s ∷ [])
flushed-grows sizes A s = mul-le-mul_left sizes.page_size (flushed_run-grows sizes A s)

-- over many steps either
pub flushed-append : (sizes : Sizes) (A B : List Step) → flushed sizes A ≤ flushed sizes (A ++ B)
flushed-append sizes A B = never_falls (flushed sizes) (flushed-grows sizes) A B

-- the flushed offset is the start of a page
pub flushed-whole : (sizes : Sizes) (A : List Step) → flushed sizes A % sizes.page_size ≡ 0
flushed-whole sizes A = mul-mod_right sizes.page_size (flushed_run sizes A)
