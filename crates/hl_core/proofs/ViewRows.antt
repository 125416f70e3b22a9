-- Rows of values, each kept in a row of its own.
use Rattle.std.proofs.Common.{◌≡◌, ℕ, ◌+◌, zero, suc, Bool, cond, not, nat_lt, List, [], ◌∷◌, length, map, replicate, refl, ap, ap₂, ◌∙◌}
use Rattle.std.specs.Prelude.{Some, None}
use Rattle.std.specs.List.{position, position_or_len}
use Rattle.std.proofs.lemmas.List.{length-map}

module _ {X Y : Type 0} (h : X → Y) where
  -- the images of copies
  pub map-replicate : (n : ℕ) (x : X) → map h (replicate n x) ≡ replicate n (h x)
  map-replicate zero x = refl
  map-replicate (suc n) x = ap (λ z. h x ∷ z) (map-replicate n x)

  -- the place of the first image that passes
  place-map : (p : Y → Bool) (xs : List X) → position_or_len p (map h xs) ≡ position_or_len (λ x. p (h x)) xs
  place-map p [] = refl
  place-map p (x ∷ xs) = ap (λ n. cond (not (p (h x))) (1 + n) 0) (place-map p xs)

  pub position-map : (p : Y → Bool) (xs : List X) → position p (map h xs) ≡ position (λ x. p (h x)) xs
  position-map p xs = ap₂ (λ n l. cond (nat_lt n l) (Some n) None) (place-map p xs) (length-map xs h)
