-- A word is looked up in one table and then in another.
use Rattle.std.proofs.Common.{◌≡◌, ℕ, Bool, true, false, cond, Option, Some, List, [], ◌∷◌, ◌++◌, refl, bytes_eq}
use Rattle.std.specs.Option.{option_or}
use Rattle.hl_line.specs.Reading.{beside}

-- the first of two, or else the other
first_or_other : {A : Type 0} (b : Bool) (x : A) (o p q : Option A) → option_or o p ≡ q → option_or (cond b (Some x) o) p ≡ cond b (Some x) q
first_or_other true x o p q h = refl
first_or_other false x o p q h = h

-- what stands beside a word in the first table, or else in the second, stands beside it in both together
pub beside_either : {A : Type 0} (word : List ℕ) (xs ys : List (List ℕ × A)) → option_or (beside word xs) (beside word ys) ≡ beside word (xs ++ ys)
beside_either word [] ys = refl
beside_either word (row ∷ rows) ys =
    first_or_other (bytes_eq word row.0) row.1 (beside word rows) (beside word ys) (beside word (rows ++ ys)) (beside_either word rows ys)
