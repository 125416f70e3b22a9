-- A page is taken to be cleaned once.
use Rattle.std.proofs.Common.{◌≡◌, ℕ, ◌==◌, ◌||◌, Bool, true, false, List, [], ◌∷◌, ◌++◌, Some, None, refl, ap, sym, ◌∙◌, subst, append_assoc}
use Rattle.std.specs.Prelude.{Option, not, ◌&&◌}
use Rattle.std.proofs.lemmas.Bool.{eq-eqb}
use Rattle.std.proofs.lemmas.List.{append-nil}
use Rattle.hl_model.specs.declared.step.Step.{Step}
use Rattle.hl_model.specs.declared.step.Step.TheVariants.{CleanTake, CleanDone}
use Rattle.hl_model.specs.Pages.{is_freed, is_cleaning, cleaning, marks, next_to_clean}
use Rattle.hl_model.specs.Sizes.{Sizes}
use Rattle.hl_laws.proofs.WorkLaws.{is_freed-push, is_freed-stay, is_cleaning-take, is_cleaning-done, is_cleaning-stay, is_out-idle, next_page-parts}

module _ (sizes : Sizes) (q : ℕ) where
  -- the page was taken to be cleaned: it still is, or it is freed
  abbrev Went : List Step → Type 0
  Went A = (is_freed sizes q A || is_cleaning sizes q A) ≡ true

  went_of : (A B : List Step) (f c : Bool) → is_freed sizes q B ≡ f → is_cleaning sizes q B ≡ c → (f || c) ≡ true → Went B
  went_of A B f c freed cleaned is = ap (λ b. b || is_cleaning sizes q B) freed ∙ ap (λ b. f || b) cleaned ∙ is

  -- a done of this page frees it, one of another leaves it
  done_or : (f c b : Bool) → (f || c) ≡ true → ((f || b) || (not b && c)) ≡ true
  done_or true c b h = refl
  done_or false c true h = refl
  done_or false c false h = h

  more_out : (f c b : Bool) → (f || c) ≡ true → (f || (b || c)) ≡ true
  more_out true c b h = refl
  more_out false c true h = refl
  more_out false c false h = h

  went_push : (A : List Step) (s : Step) → Went A → Went (A ++ s ∷ [])
  went_push A CleanTake h = by (next_to_clean sizes A) refl
    where
      by : (n : Option ℕ) → next_to_clean sizes A ≡ n → Went (A ++ CleanTake ∷ [])
      by None n = went_of A (A ++ CleanTake ∷ []) (is_freed sizes q A) (is_cleaning sizes q A) (is_freed-stay sizes A CleanTake q refl) (is_out-idle (cleaning sizes) A CleanTake q refl n) h
      by (Some r) n = went_of A (A ++ CleanTake ∷ []) (is_freed sizes q A) (r == q || is_cleaning sizes q A) (is_freed-stay sizes A CleanTake q refl) (is_cleaning-take sizes A r q n) (more_out (is_freed sizes q A) (is_cleaning sizes q A) (r == q) h)
  went_push A (CleanDone r) h =
      went_of A (A ++ CleanDone r ∷ []) (is_freed sizes q A || r == q) (not (r == q) && is_cleaning sizes q A) (is_freed-push sizes q A (CleanDone r)) (is_cleaning-done sizes A r q) (done_or (is_freed sizes q A) (is_cleaning sizes q A) (r == q) h)
  went_push A s h = went_of A (A ++ s ∷ []) (is_freed sizes q A) (is_cleaning sizes q A) (is_freed-stay sizes A s q refl) (is_cleaning-stay sizes A s q refl refl) h

  went_on : (L A : List Step) → Went A → Went (A ++ L)
  went_on [] A h = subst Went (sym (append-nil A)) h
  went_on (s ∷ L) A h = subst Went (append_assoc A (s ∷ []) L) (went_on L (A ++ s ∷ []) (went_push A s h))

  -- no later take names a page that a take named
  pub one_take : (A later rest : List Step) → next_to_clean sizes A ≡ Some q → next_to_clean sizes later ≡ Some q → later ≡ (A ++ CleanTake ∷ []) ++ rest → ⊥
  one_take A later rest first second is =
      let out : is_cleaning sizes q (A ++ CleanTake ∷ []) ≡ true = is_cleaning-take sizes A q q first ∙ ap (λ b. b || is_cleaning sizes q A) (eq-eqb q q refl) in
      let taken : Went (A ++ CleanTake ∷ []) = or_right (is_freed sizes q (A ++ CleanTake ∷ [])) (is_cleaning sizes q (A ++ CleanTake ∷ [])) out in
      let went : Went later = subst Went (sym is) (went_on rest (A ++ CleanTake ∷ []) taken) in
      let parts = next_page-parts (cleaning sizes) later (marks (cleaning sizes) later) q second in
      none (is_freed sizes q later) (is_cleaning sizes q later) parts.1 parts.2 went
    where
      or_right : (a b : Bool) → b ≡ true → (a || b) ≡ true
      or_right true b h = refl
      or_right false b h = h

      none : (a b : Bool) → a ≡ false → b ≡ false → (a || b) ≡ true → ⊥
      none true b x y h = absurd cc
      none false true x y h = absurd cc
      none false false x y h = absurd cc
