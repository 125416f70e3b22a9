-- A page is out exactly where some step took it and no step after it ends the work on it.
use Rattle.std.proofs.Common.{◌≡◌, ℕ, Bool, true, false, not, List, [], ◌∷◌, ◌++◌, refl, sym, ap, ◌∙◌, append_assoc, eq-eqb, inl, inr, ◌⊎◌}
use Rattle.std.specs.Prelude.{◌==◌, Option, Some, None}
use Rattle.std.specs.List.{list_any}
use Rattle.std.proofs.lemmas.Bool.{eqb-true, and_parts, not-true, or_cases, or_parts, or_from, or_left, or_right, both_ways}
use Rattle.hl_model.specs.declared.step.Step.{Step}
use Rattle.hl_model.specs.declared.step.Step.TheVariants.{FlushTake, CleanTake}
use Rattle.hl_model.specs.Pages.{Work, is_out, next_page, marks, takes_to_flush, flush_of, flushing, takes_to_clean, clean_of, cleaning}
use Rattle.hl_laws.specs.Follows.{is_page, OutSince, OutSinceItsTake}
use Rattle.hl_model.proofs.ListLaws.{list_any-push, by_pushing}
use Rattle.hl_laws.proofs.WorkLaws.{is_out-nil, is_out-take, is_out-end, is_out-stay, is_out-idle}

module _ (work : Work) (p : ℕ) where
  -- a step that ends the work on page p
  abbrev ends_it : Step → Bool
  ends_it s = is_page p (work.ends s)

  -- page p is out after A
  abbrev out : List Step → Bool
  out A = is_out p (marks work A)

  -- a page that is out stays so where no step ends its work
  out-stays : (A : List Step) (s : Step) → ends_it s ≡ false → out A ≡ true → out (A ++ s ∷ []) ≡ true
  out-stays A s quiet h = by_kind (work.takes s) refl (next_page work A (marks work A)) refl (work.ends s) refl
    where
      by_kind : (t : Bool) → work.takes s ≡ t → (n : Option ℕ) → next_page work A (marks work A) ≡ n → (e : Option ℕ) → work.ends s ≡ e → out (A ++ s ∷ []) ≡ true
      by_kind true t None n e is = is_out-idle work A s p t n ∙ h
      by_kind true t (Some q) n e is = is_out-take work A s q p t n ∙ or_right (q == p) (out A) h
      by_kind false t n k None is = is_out-stay work A s p t is ∙ h
      by_kind false t n k (Some q) is =
          let other : (q == p) ≡ false = sym (ap (is_page p) is) ∙ quiet in
          is_out-end work A s q p t is ∙ rw (other, h) refl

  -- a page that some step took is out as long as none ends its work
  out-from : (A : List Step) → OutSince work p A → out A ≡ true
  out-from A o = ap out o.whole ∙ by_pushing (λ Y. list_any ends_it Y ≡ false → out (o.before ++ o.taking ∷ Y) ≡ true) none step o.after o.not_ended
    where
      none : list_any ends_it [] ≡ false → out (o.before ++ o.taking ∷ []) ≡ true
      none h = is_out-take work o.before o.taking p p o.takes o.names ∙ or_left (p == p) (out o.before) (eq-eqb p p refl)

      step : (Y : List Step) (s : Step) → (list_any ends_it Y ≡ false → out (o.before ++ o.taking ∷ Y) ≡ true) → list_any ends_it (Y ++ s ∷ []) ≡ false → out (o.before ++ o.taking ∷ (Y ++ s ∷ [])) ≡ true
      step Y s earlier h =
          let quiet : (list_any ends_it Y ≡ false) × (ends_it s ≡ false) = or_parts (list_any ends_it Y) (ends_it s) (sym (list_any-push ends_it Y s) ∙ h) in
          ap out (sym (append_assoc o.before (o.taking ∷ Y) (s ∷ []))) ∙ out-stays (o.before ++ o.taking ∷ Y) s quiet.1 (earlier quiet.0)

  -- one step more that doesn't end its work
  since-more : (A : List Step) (s : Step) → ends_it s ≡ false → OutSince work p A → OutSince work p (A ++ s ∷ [])
  since-more A s quiet o = record {
    before = o.before;
    taking = o.taking;
    after = o.after ++ s ∷ [];
    whole = ap (λ L. L ++ s ∷ []) o.whole ∙ append_assoc o.before (o.taking ∷ o.after) (s ∷ []);
    takes = o.takes;
    names = o.names;
    not_ended = list_any-push ends_it o.after s ∙ or_from (list_any ends_it o.after) (ends_it s) o.not_ended quiet;
  }

  -- where no step both takes and ends: a page that is out was taken by some step
  since-out : ((s : Step) → work.takes s ≡ true → work.ends s ≡ None) → (A : List Step) → out A ≡ true → OutSince work p A
  since-out apart = by_pushing (λ A. out A ≡ true → OutSince work p A) none step
    where
      none : out [] ≡ true → OutSince work p []
      none h = absurd (both_ways (out []) (is_out-nil work p) h)

      step : (A : List Step) (s : Step) → (out A ≡ true → OutSince work p A) → out (A ++ s ∷ []) ≡ true → OutSince work p (A ++ s ∷ [])
      step A s earlier h = by_kind (work.takes s) refl (next_page work A (marks work A)) refl (work.ends s) refl
        where
          by_page : (q : ℕ) → work.takes s ≡ true → next_page work A (marks work A) ≡ Some q → (((q == p) ≡ true) ⊎ (out A ≡ true)) → OutSince work p (A ++ s ∷ [])
          by_page q t n (inl same) = record {
            before = A;
            taking = s;
            after = [];
            whole = refl;
            takes = t;
            names = n ∙ ap Some (eqb-true q p same);
            not_ended = refl;
          }
          by_page q t n (inr old) = since-more A s (ap (is_page p) (apart s t)) (earlier old)

          by_kind : (t : Bool) → work.takes s ≡ t → (n : Option ℕ) → next_page work A (marks work A) ≡ n → (e : Option ℕ) → work.ends s ≡ e → OutSince work p (A ++ s ∷ [])
          by_kind true t None n e is = since-more A s (ap (is_page p) (apart s t)) (earlier (sym (is_out-idle work A s p t n) ∙ h))
          by_kind true t (Some q) n e is = by_page q t n (or_cases (q == p) (out A) (sym (is_out-take work A s q p t n) ∙ h))
          by_kind false t n k None is = since-more A s (ap (is_page p) is) (earlier (sym (is_out-stay work A s p t is) ∙ h))
          by_kind false t n k (Some q) is =
              let parts : (not (q == p) ≡ true) × (out A ≡ true) = and_parts (not (q == p)) (out A) (sym (is_out-end work A s q p t is) ∙ h) in
              since-more A s (ap (is_page p) is ∙ not-true (q == p) parts.0) (earlier parts.1)

flush_takes_apart : (s : Step) → takes_to_flush s ≡ true → flush_of s ≡ None
flush_takes_apart FlushTake h = refl
flush_takes_apart _ h = cc

clean_takes_apart : (s : Step) → takes_to_clean s ≡ true → clean_of s ≡ None
clean_takes_apart CleanTake h = refl
clean_takes_apart _ h = cc

pub out_since_its_take : OutSinceItsTake
out_since_its_take sizes A p = (
  (since-out (flushing sizes) p flush_takes_apart A, out-from (flushing sizes) p A),
  (since-out (cleaning sizes) p clean_takes_apart A, out-from (cleaning sizes) p A),
)
