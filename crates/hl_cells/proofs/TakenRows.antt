-- A row of taken actions: where the action of a ticket is found, and what is left without it.
use Rattle.std.proofs.Common.{◌≡◌, ℕ, Bool, List, ◌++◌, length, map, take, drop, remove, position, get_or, suc, sym, ap, ap₂, ◌∙◌, subst}
use Rattle.std.specs.Prelude.{Option, Some, None, IfSome}
use Rattle.std.specs.List.{find, position_or_len, slice_get}
use Rattle.std.proofs.lemmas.List.{take-map, drop-map, map-append}
use Rattle.std.proofs.lemmas.List.Folds.{find_at}
use Rattle.std.proofs.lemmas.Option.{slice_get-get_or, slice_get_past}
use Rattle.hl_drain.proofs.Places.{place_none, place_some, remove_past}

-- where none passes none is found, and none leaves
pub found_nowhere : {X : Type 0} (p : X → Bool) (xs : List X) → None ≡ position p xs → (find p xs ≡ None) × (remove xs (position_or_len p xs) ≡ xs)
found_nowhere p xs none =
    let past = place_none (position_or_len p xs) (length xs) none in
    (find_at p xs ∙ slice_get_past xs (position_or_len p xs) past, remove_past xs (position_or_len p xs) past)

-- the one at the place is the first that passes
pub found_at_place : {X : Type 0} (p : X → Bool) (xs : List X) (place : ℕ) (x : X) → Some place ≡ position p xs → x ≡ get_or xs place x → (find p xs ≡ Some x) × (place ≡ position_or_len p xs)
found_at_place p xs place x found is =
    let at = place_some (position_or_len p xs) (length xs) place found in
    (find_at p xs ∙ ap (slice_get xs) at.0 ∙ slice_get-get_or xs place x at.1 ∙ ap (λ z. Some z) (sym is), sym at.0)

-- an element leaves a mapped list where it leaves the list
pub map_remove : {X Y : Type 0} (f : X → Y) (xs : List X) (n : ℕ) → map f (remove xs n) ≡ remove (map f xs) n
map_remove f xs n = map-append f (take n xs) (drop (suc n) xs) ∙ ap₂ (λ a b. a ++ b) (sym (take-map f n xs)) (sym (drop-map f (suc n) xs))

-- what is none has nothing to show
pub if_none : {X : Type 0} (o : Option X) (Q : X → Type 0) → o ≡ None → IfSome o Q
if_none o Q e = subst (λ z. IfSome z Q) (sym e) tt

-- what holds of the one that it is
pub if_some : {X : Type 0} (o : Option X) (Q : X → Type 0) (x : X) → o ≡ Some x → Q x → IfSome o Q
if_some o Q x e q = subst (λ z. IfSome z Q) (sym e) q
