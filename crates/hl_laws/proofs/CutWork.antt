-- Work on pages that goes on from a base.
use Rattle.std.proofs.Common.{◌≡◌, ℕ, cond, not, ◌||◌, List, [], ◌∷◌, ◌++◌, refl, sym, ap, ap₂, ◌∙◌, find, subst, append_assoc, append-nil}
use Rattle.std.specs.List.{list_any, range_with_len}
use Rattle.std.proofs.lemmas.List.Folds.{list_any-append}
use Rattle.hl_model.specs.declared.step.Step.{Step}
use Rattle.hl_model.specs.Lists.{unroll, unroll_after}
use Rattle.hl_model.specs.Sizes.{Sizes}
use Rattle.hl_model.specs.Pages.{Work, Mark, Out, Back, goes_out, comes_back, is_out, is_complete, next_page, mark_if, marks_of, marks}
use Rattle.hl_model.specs.Replies.{IsAccepted}
use Rattle.hl_model.specs.AfterPages.{Begun, is_complete_after, is_out_after, next_page_after, marks_after_step, marks_after}
use Rattle.hl_laws.proofs.AcceptedLaws.{IsAccepted-front}
use Rattle.hl_laws.proofs.AppendLaws.{later-append, find-same}
use Rattle.hl_model.proofs.ListLaws.{by_pushing, unroll-push}
use Rattle.hl_laws.proofs.WorkLaws.{marks-push}

-- the work, with the pages that are due in whole lists
abbrev pub whole_work : Begun → (List Step → ℕ) → Work
whole_work begun due = record begun.work { due = due }

-- some work goes on where a list left it
pub record GoesOn (sizes : Sizes) (begun : Begun) (due : List Step → ℕ) (A : List Step) : Type 0 where
  pub complete : (p : ℕ) → begun.complete p ≡ is_complete (whole_work begun due) p A
  pub out : (p : ℕ) → begun.out p ≡ is_out p (marks (whole_work begun due) A)
  pub same_due : (L : List Step) → IsAccepted sizes (A ++ L) → begun.work.due L ≡ due (A ++ L)

-- the complete pages
pub is_complete_after-is : (sizes : Sizes) (begun : Begun) (due : List Step → ℕ) (A : List Step) (p : ℕ) (L : List Step) → GoesOn sizes begun due A → is_complete_after begun p L ≡ is_complete (whole_work begun due) p (A ++ L)
unfolding is_complete_after is_complete
is_complete_after-is sizes begun due A p L on =
    ap (λ b. b || list_any (begun.work.completes p) L) (on.complete p) ∙ sym (list_any-append (begun.work.completes p) A L)

-- the pages that are out, told the marks since
out_after-is : (sizes : Sizes) (begun : Begun) (due : List Step → ℕ) (A : List Step) (p : ℕ) (ms : List Mark) → GoesOn sizes begun due A → is_out_after begun p ms ≡ is_out p (marks (whole_work begun due) A ++ ms)
unfolding is_out_after is_out
out_after-is sizes begun due A p ms on =
    ap (λ b. cond (list_any (λ mark. goes_out p mark || comes_back p mark) ms) (is_out p ms) b) (on.out p)
    ∙ sym (later-append (goes_out p) (comes_back p) (marks (whole_work begun due) A) ms)

-- the next page, told the marks since
next_after-is : (sizes : Sizes) (begun : Begun) (due : List Step → ℕ) (A L : List Step) (ms : List Mark) → GoesOn sizes begun due A → IsAccepted sizes (A ++ L) → next_page_after begun L ms ≡ next_page (whole_work begun due) (A ++ L) (marks (whole_work begun due) A ++ ms)
unfolding next_page_after next_page
next_after-is sizes begun due A L ms on a =
    ap (λ n. find (λ p. not (is_complete_after begun p L || is_out_after begun p ms)) (range_with_len 0 n)) (on.same_due L a)
    ∙ find-same (λ p. not (is_complete_after begun p L || is_out_after begun p ms)) (λ p. not (is_complete (whole_work begun due) p (A ++ L) || is_out p (marks (whole_work begun due) A ++ ms))) (range_with_len 0 (due (A ++ L)))
    (λ p. ap₂ (λ b c. not (b || c)) (is_complete_after-is sizes begun due A p L on) (out_after-is sizes begun due A p ms on))

marks_after-nil : (begun : Begun) → marks_after begun [] ≡ []
unfolding marks_after unroll unroll_after
marks_after-nil begun = refl

marks_after-push : (begun : Begun) (L : List Step) (s : Step) → marks_after begun (L ++ s ∷ []) ≡ marks_after begun L ++ marks_after_step begun L (marks_after begun L) s
unfolding marks_after
marks_after-push begun L s = unroll-push (marks_after_step begun) L s

-- all marks
marks-append : (sizes : Sizes) (begun : Begun) (due : List Step → ℕ) (A : List Step) → GoesOn sizes begun due A → (L : List Step) → IsAccepted sizes (A ++ L) → marks (whole_work begun due) (A ++ L) ≡ marks (whole_work begun due) A ++ marks_after begun L
marks-append sizes begun due A on = by_pushing (λ L. IsAccepted sizes (A ++ L) → marks work (A ++ L) ≡ marks work A ++ marks_after begun L) none step
  where
    work : Work
    work = whole_work begun due

    none : IsAccepted sizes (A ++ []) → marks work (A ++ []) ≡ marks work A ++ marks_after begun []
    none a = ap (marks work) (append-nil A) ∙ sym (ap (λ ms. marks work A ++ ms) (marks_after-nil begun) ∙ append-nil (marks work A))

    step : (L : List Step) (s : Step) → (IsAccepted sizes (A ++ L) → marks work (A ++ L) ≡ marks work A ++ marks_after begun L) → IsAccepted sizes (A ++ (L ++ s ∷ [])) → marks work (A ++ (L ++ s ∷ [])) ≡ marks work A ++ marks_after begun (L ++ s ∷ [])
    step L s before a =
        ap (marks work) (sym (append_assoc A L (s ∷ []))) ∙ marks-push work (A ++ L) s
        ∙ ap (λ ms. ms ++ marks_of work (A ++ L) ms s) (before front)
        ∙ append_assoc (marks work A) (marks_after begun L) (marks_of work (A ++ L) (marks work A ++ marks_after begun L) s)
        ∙ ap (λ o. marks work A ++ (marks_after begun L ++ cond (begun.work.takes s) (mark_if Out o) (mark_if Back (begun.work.ends s)))) (sym (next_after-is sizes begun due A L (marks_after begun L) on front))
        ∙ ap (λ ms. marks work A ++ ms) (sym (marks_after-push begun L s))
      where
        front : IsAccepted sizes (A ++ L)
        front = IsAccepted-front sizes (A ++ L) (s ∷ []) (subst (IsAccepted sizes) (sym (append_assoc A L (s ∷ []))) a)

-- the pages that are out
pub is_out_after-is : (sizes : Sizes) (begun : Begun) (due : List Step → ℕ) (A : List Step) (p : ℕ) (L : List Step) → GoesOn sizes begun due A → IsAccepted sizes (A ++ L) → is_out_after begun p (marks_after begun L) ≡ is_out p (marks (whole_work begun due) (A ++ L))
is_out_after-is sizes begun due A p L on a =
    out_after-is sizes begun due A p (marks_after begun L) on ∙ ap (is_out p) (sym (marks-append sizes begun due A on L a))

-- the next page
pub next_page_after-is : (sizes : Sizes) (begun : Begun) (due : List Step → ℕ) (A L : List Step) → GoesOn sizes begun due A → IsAccepted sizes (A ++ L) → next_page_after begun L (marks_after begun L) ≡ next_page (whole_work begun due) (A ++ L) (marks (whole_work begun due) (A ++ L))
next_page_after-is sizes begun due A L on a =
    next_after-is sizes begun due A L (marks_after begun L) on a
    ∙ ap (next_page (whole_work begun due) (A ++ L)) (sym (marks-append sizes begun due A on L a))
