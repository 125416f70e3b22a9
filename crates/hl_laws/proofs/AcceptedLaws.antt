-- Laws of accepted lists.
use Rattle.std.proofs.Common.{◌≡◌, ◌+◌, ◌≤◌, true, false, cond, is_none, List, [], ◌∷◌, ◌++◌, length, refl, sym, ap, ◌∙◌, subst, arith, append_assoc, append-nil}
use Rattle.std.specs.Prelude.{Option, Some, None}
use Rattle.std.proofs.lemmas.List.{length_push, append_cancel_right}
use Rattle.hl_model.specs.declared.fault.Fault.{Fault}
use Rattle.hl_model.specs.declared.step.Step.{Step}
use Rattle.hl_model.specs.Sizes.{Sizes}
use Rattle.hl_model.specs.Replies.{fault_of, extended, good_after, good, IsAccepted}
use Rattle.hl_model.proofs.ListLaws.{by_pushing}

-- a step without a fault is put behind the list
pub extended-none : (sizes : Sizes) (A : List Step) (s : Step) → fault_of sizes A s ≡ None → extended sizes A s ≡ A ++ s ∷ []
extended-none sizes A s h = ap (λ o. cond (is_none o) (A ++ s ∷ []) A) h

-- a refused step leaves it
pub extended-some : (sizes : Sizes) (A : List Step) (s : Step) (f : Fault) → fault_of sizes A s ≡ Some f → extended sizes A s ≡ A
extended-some sizes A s f h = ap (λ o. cond (is_none o) (A ++ s ∷ []) A) h

-- one step after another
pub good_after-append : (sizes : Sizes) (A L M : List Step) → good_after sizes A (L ++ M) ≡ good_after sizes (good_after sizes A L) M
unfolding good_after
good_after-append sizes A [] M = refl
good_after-append sizes A (s ∷ L) M = good_after-append sizes (extended sizes A s) L M

-- of no steps none is accepted
pub good-nil : (sizes : Sizes) → good sizes [] ≡ []
unfolding good good_after
good-nil sizes = refl

-- one step more
pub good-push : (sizes : Sizes) (L : List Step) (s : Step) → good sizes (L ++ s ∷ []) ≡ extended sizes (good sizes L) s
unfolding good good_after
good-push sizes L s = good_after-append sizes [] L (s ∷ [])

extended-length : (sizes : Sizes) (A : List Step) (s : Step) → length (extended sizes A s) ≤ length A + 1
extended-length sizes A s =
    elim (is_none (fault_of sizes A s)) as (λ b. length (cond b (A ++ s ∷ []) A) ≤ length A + 1) [ true ↦ omega (arith, length_push A s) | false ↦ omega arith ]

-- no step is accepted that wasn't there
pub good-length : (sizes : Sizes) (L : List Step) → length (good sizes L) ≤ length L
good-length sizes = by_pushing (λ L. length (good sizes L) ≤ length L) none
    (λ L s h. let one : length (good sizes (L ++ s ∷ [])) ≤ length (good sizes L) + 1
    = subst (λ (X : List Step). length X ≤ length (good sizes L) + 1) (sym (good-push sizes L s)) (extended-length sizes (good sizes L) s) in
    omega (arith, length_push L s))
  where
    none : length (good sizes []) ≤ 0
    none = omega (arith, ap length (good-nil sizes))

-- an accepted list and a step without a fault are accepted together
pub IsAccepted-push : (sizes : Sizes) (A : List Step) (s : Step) → IsAccepted sizes A → fault_of sizes A s ≡ None → IsAccepted sizes (A ++ s ∷ [])
IsAccepted-push sizes A s a h = good-push sizes A s ∙ ap (λ B. extended sizes B s) a ∙ extended-none sizes A s h

-- and so its last step had none, and what is before is accepted
pub IsAccepted-parts : (sizes : Sizes) (A : List Step) (s : Step) → IsAccepted sizes (A ++ s ∷ []) → IsAccepted sizes A × (fault_of sizes A s ≡ None)
IsAccepted-parts sizes A s a = by_fault (fault_of sizes (good sizes A) s) refl
  where
    whole : extended sizes (good sizes A) s ≡ A ++ s ∷ []
    whole = sym (good-push sizes A s) ∙ a

    by_fault : (o : Option Fault) → fault_of sizes (good sizes A) s ≡ o → IsAccepted sizes A × (fault_of sizes A s ≡ None)
    by_fault None h =
        let same : good sizes A ≡ A = append_cancel_right (good sizes A) A (s ∷ []) (sym (extended-none sizes (good sizes A) s h) ∙ whole) in
        (same, sym (ap (λ B. fault_of sizes B s) same) ∙ h)
    by_fault (Some f) h =
        let long : length (good sizes A) ≡ length (A ++ s ∷ []) = ap length (sym (extended-some sizes (good sizes A) s f h) ∙ whole) in
        absurd (omega (arith, good-length sizes A, length_push A s))

-- the beginnings of an accepted list are accepted
pub IsAccepted-front : (sizes : Sizes) (A B : List Step) → IsAccepted sizes (A ++ B) → IsAccepted sizes A
IsAccepted-front sizes A = by_pushing (λ B. IsAccepted sizes (A ++ B) → IsAccepted sizes A)
    (λ h. subst (IsAccepted sizes) (append-nil A) h)
    (λ B s later h. later (IsAccepted-parts sizes (A ++ B) s (subst (IsAccepted sizes) (sym (append_assoc A B (s ∷ []))) h)).0)

-- what is accepted of a list is an accepted list
pub IsAccepted-good : (sizes : Sizes) (L : List Step) → IsAccepted sizes (good sizes L)
IsAccepted-good sizes = by_pushing (λ L. IsAccepted sizes (good sizes L)) none step
  where
    none : IsAccepted sizes (good sizes [])
    none = ap (good sizes) (good-nil sizes)

    step : (L : List Step) (s : Step) → IsAccepted sizes (good sizes L) → IsAccepted sizes (good sizes (L ++ s ∷ []))
    step L s a = by_fault (fault_of sizes (good sizes L) s) refl
      where
        by_fault : (o : Option Fault) → fault_of sizes (good sizes L) s ≡ o → IsAccepted sizes (good sizes (L ++ s ∷ []))
        by_fault None h = subst (IsAccepted sizes) (sym (good-push sizes L s ∙ extended-none sizes (good sizes L) s h)) (IsAccepted-push sizes (good sizes L) s a h)
        by_fault (Some f) h = subst (IsAccepted sizes) (sym (good-push sizes L s ∙ extended-some sizes (good sizes L) s f h)) a

-- what holds of no steps and is kept by each accepted step holds of every accepted list
pub accepted_has : (sizes : Sizes) (P : List Step → Type 0) → P [] → ((A : List Step) (s : Step) → IsAccepted sizes A → fault_of sizes A s ≡ None → P A → P (A ++ s ∷ [])) → (A : List Step) → IsAccepted sizes A → P A
accepted_has sizes P nil keeps = by_pushing (λ A. IsAccepted sizes A → P A) (λ a. nil)
    (λ A s h a. let parts : IsAccepted sizes A × (fault_of sizes A s ≡ None) = IsAccepted-parts sizes A s a in keeps A s parts.0 parts.1 (h parts.0))
