-- The elements of a list one by one, by their places.
use Rattle.std.proofs.Common.{◌≡◌, ℕ, ◌+◌, ◌<◌, Some, None, List, [], ◌∷◌, ◌++◌, length, take, min, sym, ap, ◌∙◌, arith, add-one}
use Rattle.std.proofs.Math.Seq.{take-suc}
use Rattle.std.specs.Prelude.{slice_get}
use Rattle.std.proofs.lemmas.List.{take_min}
use Rattle.std.proofs.lemmas.Option.{slice_get_within, slice_get-get_or, get_or_from_slice_get}

-- the first elements with the next one
pub take_more : {A : Type 0} (xs : List A) (n : ℕ) (x : A) → slice_get xs n ≡ Some x → take n xs ++ x ∷ [] ≡ take (n + 1) xs
take_more xs n x h =
    let within = slice_get_within xs n x h in
    ap (λ y. take n xs ++ y ∷ []) (sym (get_or_from_slice_get xs n x x h)) ∙ sym (take-suc xs n x within) ∙ ap (λ m. take m xs) (sym (add-one n))

-- there is an element at each place
pub never_none : {A : Type 0} (xs : List A) (n : ℕ) → n < length xs → slice_get xs n ≡ None → ⊥
never_none [] n within none = absurd (omega arith)
never_none (x ∷ xs) n within none = let some = sym (slice_get-get_or (x ∷ xs) n x within) ∙ none in cc

-- at most the first k elements, by how many these are
pub take_fewer : {A : Type 0} (xs : List A) (n k : ℕ) → n ≡ min (length xs) k → take n xs ≡ take k xs
take_fewer xs n k few =
    let same : n ≡ min k (length xs) = omega (arith, few) in
    ap (λ m. take m xs) same ∙ take_min k xs
