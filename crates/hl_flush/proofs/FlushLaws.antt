-- What the definitions say of a page's flush take and its end.
use Rattle.std.proofs.Common.{◌≡◌, ℕ, ◌<◌, Bool, true, false, ◌||◌, List, [], ◌∷◌, ◌++◌, refl, sym, ap, ap₂, ◌∙◌, subst, arith, append_assoc}
use Rattle.std.specs.Prelude.{◌==◌, ◌&&◌, not, Option, Some, None, unwrap_or, Ok, Err}
use Rattle.std.proofs.lemmas.Bool.{eq-eqb, ne_eqb}
use Rattle.std.proofs.Math.Bool.{or-false}
use Rattle.hl_model.specs.declared.fault.Fault.TheVariants.{NoneSealed}
use Rattle.hl_model.specs.declared.step.Reply.TheVariants.{Page}
use Rattle.hl_model.specs.declared.step.Step.{Step}
use Rattle.hl_model.specs.declared.step.Step.TheVariants.{FlushTake, FlushDone}
use Rattle.hl_model.specs.Sizes.{Sizes}
use Rattle.hl_model.specs.Settled.{safe_read_only, settles, pages_below}
use Rattle.hl_model.specs.Pages.{flushing, marks, is_flushed, is_in_flight, next_to_flush}
use Rattle.hl_model.specs.Words.{page_words}
use Rattle.hl_model.specs.Replies.{unless_page, unless_fault, fault_of, reply_of, IsAccepted}
use Rattle.hl_laws.proofs.AcceptedLaws.{IsAccepted-push}
use Rattle.hl_laws.proofs.SettledLaws.{done_greatest-quiet}
use Rattle.hl_laws.proofs.WordLaws.{page_words-stay}
use Rattle.hl_laws.proofs.WorkLaws.{is_in_flight-take, is_in_flight-done, next_page-parts, next_page-least, next_page-is, is_flushed-push, is_flushed-stay}

-- a take that is answered with some page names it
named : (n : Option ℕ) (page : ℕ) → unless_fault (unless_page NoneSealed n) (Page (unwrap_or n 0)) ≡ Ok (Page page) → n ≡ Some page
named None page h = cc
named (Some q) page h = let same : q ≡ page = cc in ap Some same

pub take-named : (sizes : Sizes) (A : List Step) (page : ℕ) → reply_of sizes A FlushTake ≡ Ok (Page page) → next_to_flush sizes A ≡ Some page
take-named sizes A page h = named (next_to_flush sizes A) page h

unnamed : (n : Option ℕ) → unless_fault (unless_page NoneSealed n) (Page (unwrap_or n 0)) ≡ Err NoneSealed → n ≡ None
unnamed None h = refl
unnamed (Some q) h = cc

-- one that is refused names none
pub take-unnamed : (sizes : Sizes) (A : List Step) → reply_of sizes A FlushTake ≡ Err NoneSealed → next_to_flush sizes A ≡ None
take-unnamed sizes A h = unnamed (next_to_flush sizes A) h

-- a take is answered with the page that it names
pub take-reply : (sizes : Sizes) (A : List Step) (page : ℕ) → next_to_flush sizes A ≡ Some page → reply_of sizes A FlushTake ≡ Ok (Page page)
take-reply sizes A page h = ap (λ n. unless_fault (unless_page NoneSealed n) (Page (unwrap_or n 0))) h

-- and it meets no fault
pub take-lawful : (sizes : Sizes) (A : List Step) (page : ℕ) → next_to_flush sizes A ≡ Some page → fault_of sizes A FlushTake ≡ None
take-lawful sizes A page h = ap (unless_page NoneSealed) h

-- the page that a take names is in flight
pub take-in_flight : (sizes : Sizes) (A : List Step) (page : ℕ) → next_to_flush sizes A ≡ Some page → is_in_flight sizes page (A ++ FlushTake ∷ []) ≡ true
take-in_flight sizes A page h = is_in_flight-take sizes A page page h ∙ ap (λ b. b || is_in_flight sizes page A) (eq-eqb page page refl)

-- a take changes no word
pub take-words : (sizes : Sizes) (A : List Step) (page : ℕ) → page_words sizes page (A ++ FlushTake ∷ []) ≡ page_words sizes page A
take-words sizes A page = page_words-stay sizes page A FlushTake (λ a. refl)

-- the list with a take and the end of its flush, one step after another
abbrev pub with_flush : List Step → ℕ → Bool → List Step
with_flush A page ok = (A ++ FlushTake ∷ []) ++ FlushDone page ok ∷ []

-- the same as one list
pub with_flush-is : (A : List Step) (page : ℕ) (ok : Bool) → with_flush A page ok ≡ A ++ FlushTake ∷ FlushDone page ok ∷ []
with_flush-is A page ok = append_assoc A (FlushTake ∷ []) (FlushDone page ok ∷ [])

-- the page is flushed then if its flush ended well, and the others are as before
pub with_flush-flushed : (sizes : Sizes) (A : List Step) (page : ℕ) (ok : Bool) (p : ℕ) → is_flushed sizes p (with_flush A page ok) ≡ (is_flushed sizes p A || (page == p && ok))
with_flush-flushed sizes A page ok p =
    is_flushed-push sizes p (A ++ FlushTake ∷ []) (FlushDone page ok)
    ∙ ap (λ b. b || (page == p && ok)) (is_flushed-stay sizes A FlushTake p refl)

-- the page is in flight no longer
pub with_flush-page : (sizes : Sizes) (A : List Step) (page : ℕ) (ok : Bool) → is_in_flight sizes page (with_flush A page ok) ≡ false
with_flush-page sizes A page ok =
    is_in_flight-done sizes (A ++ FlushTake ∷ []) page ok page
    ∙ ap (λ b. not b && is_in_flight sizes page (A ++ FlushTake ∷ [])) (eq-eqb page page refl)

-- other pages are in flight as before
pub with_flush-other : (sizes : Sizes) (A : List Step) (page : ℕ) (ok : Bool) (p : ℕ) → next_to_flush sizes A ≡ Some page → (page ≡ p → ⊥) → is_in_flight sizes p (with_flush A page ok) ≡ is_in_flight sizes p A
with_flush-other sizes A page ok p next ne =
    let other : (page == p) ≡ false = ne_eqb page p ne in
    is_in_flight-done sizes (A ++ FlushTake ∷ []) page ok p
    ∙ ap (λ b. not b && is_in_flight sizes p (A ++ FlushTake ∷ [])) other
    ∙ is_in_flight-take sizes A page p next
    ∙ ap (λ b. b || is_in_flight sizes p A) other

-- the safe read-only offset is as before
pub with_flush-settled : (sizes : Sizes) (A : List Step) (page : ℕ) (ok : Bool) → IsAccepted sizes A → next_to_flush sizes A ≡ Some page → safe_read_only (with_flush A page ok) ≡ safe_read_only A
with_flush-settled sizes A page ok a next =
    done_greatest-quiet sizes settles (A ++ FlushTake ∷ []) (FlushDone page ok) (IsAccepted-push sizes A FlushTake a (take-lawful sizes A page next)) refl
    ∙ done_greatest-quiet sizes settles A FlushTake a refl

-- a failed flush flushes no page
failed-flushed : (sizes : Sizes) (A : List Step) (page p : ℕ) → is_flushed sizes p (with_flush A page false) ≡ is_flushed sizes p A
failed-flushed sizes A page p = with_flush-flushed sizes A page false p ∙ ap (λ b. is_flushed sizes p A || b) (and_false (page == p)) ∙ or-false (is_flushed sizes p A)
  where
    and_false : (b : Bool) → (b && false) ≡ false
    and_false true = refl
    and_false false = refl

-- a page whose flush failed is the next to be taken again
pub taken_again : (sizes : Sizes) (A : List Step) (page : ℕ) → IsAccepted sizes A → next_to_flush sizes A ≡ Some page → next_to_flush sizes (A ++ FlushTake ∷ FlushDone page false ∷ []) ≡ Some page
taken_again sizes A page a next =
    subst (λ B. next_to_flush sizes B ≡ Some page) (with_flush-is A page false)
    (next_page-is (flushing sizes) (with_flush A page false) (marks (flushing sizes) (with_flush A page false)) page due
    (failed-flushed sizes A page page ∙ parts.1)
    (with_flush-page sizes A page false)
    below)
  where
    parts : (page < pages_below sizes (safe_read_only A)) × (is_flushed sizes page A ≡ false) × (is_in_flight sizes page A ≡ false)
    parts = next_page-parts (flushing sizes) A (marks (flushing sizes) A) page next

    due : page < pages_below sizes (safe_read_only (with_flush A page false))
    due = subst (λ x. page < pages_below sizes x) (sym (with_flush-settled sizes A page false a next)) parts.0

    below : (p : ℕ) → p < page → (is_flushed sizes p (with_flush A page false) || is_in_flight sizes p (with_flush A page false)) ≡ true
    below p lt =
        ap₂ (λ b c. b || c) (failed-flushed sizes A page p) (with_flush-other sizes A page false p next (λ e. omega (arith, e, lt)))
        ∙ next_page-least (flushing sizes) A (marks (flushing sizes) A) page p next lt
