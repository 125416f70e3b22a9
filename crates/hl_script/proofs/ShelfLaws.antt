-- The jobs on a shelf: what a bump leaves there.
use Rattle.std.proofs.Common.{◌≡◌, ◌≢◌, ◌⊎◌, ℕ, ◌<◌, ◌≤◌, Bool, true, false, cond, not, ◌||◌, eqb, is_some, is_none, inl, inr, List, [], ◌∷◌, ◌++◌, length, get_or, set, get_or-set_same, get_or-set_other, length-set, refl, sym, ap, ◌∙◌, subst, arith}
use Rattle.std.specs.Prelude.{◌&&◌, Option, Some, None}
use Rattle.std.specs.List.{list_any}
use Rattle.std.proofs.lemmas.Bool.{eqb-true, eqb-false, lt-ltb, cases_lt}
use Rattle.std.proofs.lemmas.List.{get_or_past}
use Rattle.hl_action.specs.Jobs.{KeptRecord}
use Rattle.hl_action.specs.Shelves.{job_of, has_place}
use Rattle.hl_model.specs.declared.step.Step.{Step}
use Rattle.hl_model.specs.declared.step.Step.TheVariants.{Bump}
use Rattle.hl_model.proofs.ListLaws.{list_any-push}
use Rattle.hl_script.specs.Answers.{bears, lacks_job}
use Rattle.hl_script.specs.Text.{tags_on}
use Rattle.hl_script.specs.Fast.{AreLeft}

or_true : (a b : Bool) → b ≡ true → (a || b) ≡ true
or_true true b h = refl
or_true false b h = h

or_none : (a b : Bool) → b ≡ false → (a || b) ≡ a
or_none true b h = refl
or_none false b h = h

-- a place that was emptied is empty, also past the end
emptied : {X : Type 0} (xs : List (Option X)) (i : ℕ) → get_or (set xs i None) i None ≡ None
emptied xs i = by_order (cases_lt i (length xs))
  where
    by_order : (i < length xs) ⊎ (length xs ≤ i) → get_or (set xs i None) i None ≡ None
    by_order (inl lt) = get_or-set_same xs i None None lt
    by_order (inr ge) = get_or_past (set xs i None) i None (omega (arith, length-set xs i None))

-- a place that has something lies within
within : {X : Type 0} (xs : List (Option X)) (i : ℕ) (x : X) → get_or xs i None ≡ Some x → i < length xs
within xs i x h = by_order (cases_lt i (length xs))
  where
    by_order : (i < length xs) ⊎ (length xs ≤ i) → i < length xs
    by_order (inl lt) = lt
    by_order (inr ge) = let none : get_or xs i None ≡ None = get_or_past xs i None ge in cc

-- a step that bears no tag leaves the jobs
pub left_stays : {F : Type 0} (has : ℕ → Bool) (A : List Step) (step : Step) (shelf : List (Option (KeptRecord F))) → AreLeft has A shelf → ((tag : ℕ) → bears tag step ≡ false) → AreLeft has (A ++ step ∷ []) shelf
left_stays has A step shelf left bare tag = left tag ∙ sym (ap (λ b. not (not (has tag) || b)) (list_any-push (bears tag) A step ∙ or_none (list_any (bears tag) A) (bears tag step) (bare tag)))

-- the jobs that are left without the one of a tag
pub left_bumped : {F : Type 0} (has : ℕ → Bool) (A : List Step) (tag : ℕ) (shelf : List (Option (KeptRecord F))) → AreLeft has A shelf → AreLeft has (A ++ Bump tag ∷ []) (set shelf tag None)
left_bumped has A tag shelf left t = by_test (eqb tag t) refl
  where
    by_test : (b : Bool) → eqb tag t ≡ b → tags_on (set shelf tag None) t ≡ not (lacks_job has (A ++ Bump tag ∷ []) (Bump t))
    by_test true h =
        let same : tag ≡ t = eqb-true tag t h in
        let borne : list_any (bears t) (A ++ Bump tag ∷ []) ≡ true = list_any-push (bears t) A (Bump tag) ∙ or_true (list_any (bears t) A) (eqb tag t) h in
        subst (λ n. tags_on (set shelf n None) t ≡ false) (sym same) (ap is_some (emptied shelf t))
        ∙ sym (ap not (ap (λ b. not (has t) || b) borne ∙ or_true (not (has t)) true refl))
    by_test false h =
        ap is_some (get_or-set_other shelf tag t None None (λ e. eqb-false tag t h (sym e))) ∙ left t
        ∙ sym (ap (λ b. not (not (has t) || b)) (list_any-push (bears t) A (Bump tag) ∙ or_none (list_any (bears t) A) (eqb tag t) h))

-- a take of a job that isn't there leaves the shelf's tags
pub left_missed : {F : Type 0} (tag : ℕ) (shelf : List (Option (KeptRecord F))) → job_of shelf tag ≡ None → (t : ℕ) → tags_on (set shelf tag None) t ≡ tags_on shelf t
left_missed tag shelf none t = by_test (eqb tag t) refl
  where
    by_test : (b : Bool) → eqb tag t ≡ b → tags_on (set shelf tag None) t ≡ tags_on shelf t
    by_test true h =
        let same : tag ≡ t = eqb-true tag t h in
        subst (λ n. tags_on (set shelf tag None) n ≡ tags_on shelf n) same (ap is_some (emptied shelf tag) ∙ sym (ap is_some none))
    by_test false h = ap is_some (get_or-set_other shelf tag t None None (λ e. eqb-false tag t h (sym e)))

-- and a job that is put back where it was
pub left_back : {F : Type 0} (tag : ℕ) (kept : KeptRecord F) (shelf : List (Option (KeptRecord F))) → job_of shelf tag ≡ Some kept → kept.tag ≡ tag → (t : ℕ) → tags_on (cond (has_place (set shelf tag None) kept.tag) (set (set shelf tag None) kept.tag (Some kept)) (set shelf tag None)) t ≡ tags_on shelf t
left_back tag kept shelf there own t =
    ap (λ n. tags_on (cond (has_place (set shelf tag None) n) (set (set shelf tag None) n (Some kept)) (set shelf tag None)) t) own
    ∙ ap (λ b. tags_on (cond b (set (set shelf tag None) tag (Some kept)) (set shelf tag None)) t) free
    ∙ by_test (eqb tag t) refl
  where
    inside : tag < length (set shelf tag None)
    inside = omega (arith, within shelf tag kept there, length-set shelf tag None)

    free : has_place (set shelf tag None) tag ≡ true
    free = ap (λ b. b && is_none (get_or (set shelf tag None) tag None)) (lt-ltb tag (length (set shelf tag None)) inside) ∙ ap is_none (emptied shelf tag)

    by_test : (b : Bool) → eqb tag t ≡ b → tags_on (set (set shelf tag None) tag (Some kept)) t ≡ tags_on shelf t
    by_test true h =
        let same : tag ≡ t = eqb-true tag t h in
        subst (λ n. tags_on (set (set shelf tag None) tag (Some kept)) n ≡ tags_on shelf n) same
        (ap is_some (get_or-set_same (set shelf tag None) tag (Some kept) None inside) ∙ sym (ap is_some there))
    by_test false h =
        let apart : t ≢ tag = λ e. eqb-false tag t h (sym e) in
        ap is_some (get_or-set_other (set shelf tag None) tag t (Some kept) None apart ∙ get_or-set_other shelf tag t None None apart)
