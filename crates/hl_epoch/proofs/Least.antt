-- The least epoch of a row of slots, where one slot changes.
use Rattle.std.proofs.Common.{◌≡◌, ℕ, zero, suc, ◌+◌, ◌≤◌, min, fold, Option, Some, None, List, [], ◌∷◌, ◌⊎◌, inl, inr, set, get_or, unwrap_or, refl, ◌∙◌, ap, arith}
use Rattle.std.specs.List.{filter_map, reduce}
use Rattle.hl_model.specs.Lists.{least_or}

-- the epochs of the protected slots
abbrev pub protected : List (Option ℕ) → List ℕ
protected epochs = filter_map (λ epoch. epoch) epochs

-- no slot's epoch is above the number
abbrev pub AreAtMost : ℕ → List (Option ℕ) → Type 0
AreAtMost n xs = (t epoch : ℕ) → get_or xs t None ≡ Some epoch → epoch ≤ n

-- it is at most each epoch
pub least_or-at : (d : ℕ) (xs : List (Option ℕ)) (t epoch : ℕ) → get_or xs t None ≡ Some epoch → least_or d (protected xs) ≤ epoch
unfolding least_or
least_or-at d [] t epoch e = absurd cc
least_or-at d (None ∷ xs) zero epoch e = absurd cc
least_or-at d (None ∷ xs) (suc t) epoch e = least_or-at d xs t epoch e
least_or-at d (Some x ∷ xs) zero epoch e = let same : x ≡ epoch = cc in omega arith
least_or-at d (Some x ∷ xs) (suc t) epoch e = omega (arith, least_or-at x xs t epoch e)

-- what is at most each epoch is at most the least
pub least_or-greatest : (n d : ℕ) (xs : List (Option ℕ)) → n ≤ d → ((t epoch : ℕ) → get_or xs t None ≡ Some epoch → n ≤ epoch) → n ≤ least_or d (protected xs)
unfolding least_or
least_or-greatest n d [] low each = low
least_or-greatest n d (None ∷ xs) low each = least_or-greatest n d xs low (λ t epoch e. each (suc t) epoch e)
least_or-greatest n d (Some x ∷ xs) low each =
    omega (arith, each 0 x refl, least_or-greatest n x xs (each 0 x refl) (λ t epoch e. each (suc t) epoch e))

-- it is at most a number that no epoch is above
pub least_or-most : (d : ℕ) (xs : List (Option ℕ)) → AreAtMost d xs → least_or d (protected xs) ≤ d
unfolding least_or
least_or-most d [] most = omega arith
least_or-most d (None ∷ xs) most = least_or-most d xs (λ t epoch e. most (suc t) epoch e)
least_or-most d (Some x ∷ xs) most = omega (arith, most 0 x refl)

-- who is protected once a slot is emptied was so before
pub get_or-set_none : (xs : List (Option ℕ)) (t u epoch : ℕ) → get_or (set xs t None) u None ≡ Some epoch → get_or xs u None ≡ Some epoch
get_or-set_none [] t u epoch e = e
get_or-set_none (x ∷ xs) zero zero epoch e = absurd cc
get_or-set_none (x ∷ xs) zero (suc u) epoch e = e
get_or-set_none (x ∷ xs) (suc t) zero epoch e = e
get_or-set_none (x ∷ xs) (suc t) (suc u) epoch e = get_or-set_none xs t u epoch e

-- once a slot is given an epoch, each epoch is that one or was there before
pub get_or-set_some : (xs : List (Option ℕ)) (t u value epoch : ℕ) → get_or (set xs t (Some value)) u None ≡ Some epoch → (get_or xs u None ≡ Some epoch) ⊎ (value ≡ epoch)
get_or-set_some [] t u value epoch e = inl e
get_or-set_some (x ∷ xs) zero zero value epoch e = inr cc
get_or-set_some (x ∷ xs) zero (suc u) value epoch e = inl e
get_or-set_some (x ∷ xs) (suc t) zero value epoch e = inl e
get_or-set_some (x ∷ xs) (suc t) (suc u) value epoch e = get_or-set_some xs t u value epoch e

-- it does not fall where a slot is emptied
pub least_or-set_none : (d : ℕ) (xs : List (Option ℕ)) (t : ℕ) → AreAtMost d xs → least_or d (protected xs) ≤ least_or d (protected (set xs t None))
least_or-set_none d xs t most =
    least_or-greatest _ d (set xs t None) (least_or-most d xs most) (λ u epoch e. least_or-at d xs u epoch (get_or-set_none xs t u epoch e))

-- it does not fall where a slot is given the greatest epoch
pub least_or-set_some : (d : ℕ) (xs : List (Option ℕ)) (t : ℕ) → AreAtMost d xs → least_or d (protected xs) ≤ least_or d (protected (set xs t (Some d)))
least_or-set_some d xs t most =
    least_or-greatest _ d (set xs t (Some d)) (least_or-most d xs most)
    (λ u epoch e. elim (get_or-set_some xs t u d epoch e) [ inl was ↦ least_or-at d xs u epoch was | inr same ↦ omega (arith, least_or-most d xs most) ])

-- it does not fall where the greatest epoch rises
pub least_or-rise : (d : ℕ) (xs : List (Option ℕ)) → AreAtMost d xs → least_or d (protected xs) ≤ least_or (d + 1) (protected xs)
least_or-rise d xs most =
    least_or-greatest _ (d + 1) xs (omega (arith, least_or-most d xs most)) (λ t epoch e. least_or-at d xs t epoch e)

-- the first of two numbers may be compared last
fold-min : (x y : ℕ) (xs : List ℕ) → fold min (min x y) xs ≡ min x (fold min y xs)
fold-min x y [] = refl
fold-min x y (z ∷ xs) =
    let assoc : min (min x y) z ≡ min x (min y z) = omega arith in
    ap (λ n. fold min n xs) assoc ∙ fold-min x (min y z) xs

-- the least of a list that has a first number
fold-least_or : (x : ℕ) (xs : List ℕ) → fold min x xs ≡ min x (least_or x xs)
unfolding least_or
fold-least_or x [] = omega arith
fold-least_or x (y ∷ ys) = fold-min x y ys ∙ ap (min x) (fold-least_or y ys)

-- the least number as a chain of iterators finds it
pub least_or-reduce : (d : ℕ) (xs : List ℕ) → unwrap_or (reduce min xs) d ≡ least_or d xs
unfolding least_or
least_or-reduce d [] = refl
least_or-reduce d (x ∷ xs) = fold-least_or x xs
