-- The definitions that look back, as folds.
use Rattle.std.proofs.Common.{◌≡◌, ℕ, ◌+◌, max, Bool, cond, ◌||◌, List, [], ◌∷◌, map, refl, ap, ap₂, arith}
use Rattle.std.specs.Prelude.{Option, unwrap_or}
use Rattle.std.specs.List.{fold, list_any}
use Rattle.hl_model.specs.Lists.{until_last, greatest, last_given}

-- the greatest of a number and of those that the elements give
pub greatest_from : {X : Type 0} (f : X → ℕ) (n : ℕ) (xs : List X) → max n (greatest f xs) ≡ fold (λ most x. max most (f x)) n xs
unfolding greatest
greatest_from f n [] = omega arith
greatest_from f n (x ∷ xs) = omega (arith, greatest_from f (max n (f x)) xs)

-- the last value that an element gives
pub last_given_fold : {X Y : Type 0} (f : X → Option Y) (d : Y) (xs : List X) → last_given f d xs ≡ fold (λ v x. unwrap_or (f x) v) d xs
unfolding last_given
last_given_fold f d [] = refl
last_given_fold f d (x ∷ xs) = last_given_fold f (unwrap_or (f x) d) xs

-- a test of elements told by others
pub list_any_map : {X Y : Type 0} (p : Y → Bool) (f : X → Y) (xs : List X) → list_any p (map f xs) ≡ list_any (λ x. p (f x)) xs
list_any_map p f [] = refl
list_any_map p f (x ∷ xs) = ap (λ b. p (f x) || b) (list_any_map p f xs)

-- the last place among elements told by others
pub until_last_map : {X Y : Type 0} (p : Y → Bool) (f : X → Y) (xs : List X) → until_last p (map f xs) ≡ until_last (λ x. p (f x)) xs
unfolding until_last
until_last_map p f [] = refl
until_last_map p f (x ∷ xs) = ap₂ (λ b n. cond b (n + 1) (cond (p (f x)) 1 0)) (list_any_map p f xs) (until_last_map p f xs)
