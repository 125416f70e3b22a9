-- The first element that passes, as far as a list is read.
use Rattle.std.proofs.Common.{◌≡◌, ℕ, suc, ◌+◌, ◌<◌, Bool, true, false, cond, List, [], ◌∷◌, ◌++◌, length, take, drop, get_or, sym, ap, ◌∙◌, find, drop-cons, eq-eqb, ne_eqb, ◌≢◌}
use Rattle.std.specs.Prelude.{◌==◌, Some, None}
use Rattle.hl_model.specs.declared.action.Waiting.{Waiting}
use Rattle.std.specs.Option.{option_or}
use Rattle.std.proofs.lemmas.List.{take-append-drop, take_more}
use Rattle.std.proofs.lemmas.List.Folds.{find-append}

-- where none before it passes, it is the first
pub find-hit : {X : Type 0} (p : X → Bool) (xs : List X) (i : ℕ) (d : X) → i < length xs → find p (take i xs) ≡ None → p (get_or xs i d) ≡ true → find p xs ≡ Some (get_or xs i d)
find-hit p xs i d h none passes =
    ap (find p) (sym (take-append-drop i xs) ∙ ap (λ l. take i xs ++ l) (drop-cons xs i d h))
    ∙ find-append p (take i xs) (get_or xs i d ∷ drop (suc i) xs)
    ∙ ap (λ o. option_or o (find p (get_or xs i d ∷ drop (suc i) xs))) none
    ∙ ap (λ b. cond b (Some (get_or xs i d)) (find p (drop (suc i) xs))) passes

-- or none passes yet
pub find-miss : {X : Type 0} (p : X → Bool) (xs : List X) (i : ℕ) (d : X) → i < length xs → find p (take i xs) ≡ None → p (get_or xs i d) ≡ false → find p (take (i + 1) xs) ≡ None
find-miss p xs i d h none fails =
    ap (find p) (take_more xs i d h) ∙ find-append p (take i xs) (get_or xs i d ∷ [])
    ∙ ap (λ o. option_or o (find p (get_or xs i d ∷ []))) none
    ∙ ap (λ b. cond b (Some (get_or xs i d)) None) fails

-- an action has a ticket
abbrev pub has_ticket : ℕ → Waiting → Bool
has_ticket c w = w.ticket == c

-- the first action of a ticket
pub ticket-hit : (c : ℕ) (ys xs : List Waiting) (i : ℕ) (d : Waiting) → ys ≡ xs → i < length ys → find (has_ticket c) (take i xs) ≡ None → (get_or ys i d).ticket ≡ c → Some (get_or ys i d) ≡ find (has_ticket c) xs
ticket-hit c ys xs i d same h none is =
    sym (find-hit (has_ticket c) ys i d h (ap (λ l. find (has_ticket c) (take i l)) same ∙ none) (eq-eqb (get_or ys i d).ticket c is)) ∙ ap (find (has_ticket c)) same

-- or none yet
pub ticket-miss : (c : ℕ) (ys xs : List Waiting) (i : ℕ) (d : Waiting) → ys ≡ xs → i < length ys → find (has_ticket c) (take i xs) ≡ None → (get_or ys i d).ticket ≢ c → find (has_ticket c) (take (i + 1) xs) ≡ None
ticket-miss c ys xs i d same h none ne =
    ap (λ l. find (has_ticket c) (take (i + 1) l)) (sym same)
    ∙ find-miss (has_ticket c) ys i d h (ap (λ l. find (has_ticket c) (take i l)) same ∙ none) (ne_eqb (get_or ys i d).ticket c ne)
