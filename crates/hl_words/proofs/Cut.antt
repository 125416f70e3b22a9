-- Lists cut at one element: what holds of each.
use Rattle.std.proofs.Common.{◌≡◌, ℕ, zero, suc, List, [], ◌∷◌, ◌++◌, set, Some, slice_get, refl, sym, subst}
use Rattle.std.specs.List.{AllByRecursion as Every}
use mathlib.Core.Option.{some, some-injective, some-ne-none}
use lib.ListN.{get_elem?}

module _ {X : Type 0} where
  pub every_front : (P : X → Type 0) (xs ys : List X) → Every P (xs ++ ys) → Every P xs
  every_front P [] ys h = tt
  every_front P (x ∷ xs) ys h = (h.0, every_front P xs ys h.1)

  pub every_back : (P : X → Type 0) (xs ys : List X) → Every P (xs ++ ys) → Every P ys
  every_back P [] ys h = h
  every_back P (x ∷ xs) ys h = every_back P xs ys h.1

  pub every_append : (P : X → Type 0) (xs ys : List X) → Every P xs → Every P ys → Every P (xs ++ ys)
  every_append P [] ys h k = k
  every_append P (x ∷ xs) ys h k = (h.0, every_append P xs ys h.1 k)

  pub every_weaker : (P Q : X → Type 0) (xs : List X) → ((x : X) → P x → Q x) → Every P xs → Every Q xs
  every_weaker P Q [] f h = tt
  every_weaker P Q (x ∷ xs) f h = (f x h.0, every_weaker P Q xs f h.1)

  pub every_set : (P : X → Type 0) (xs : List X) (k : ℕ) (y : X) → Every P xs → P y → Every P (set xs k y)
  every_set P [] k y h p = tt
  every_set P (x ∷ xs) zero y h p = (p, h.1)
  every_set P (x ∷ xs) (suc k) y h p = (h.0, every_set P xs k y h.1 p)

  -- the same by places
  pub every_at : (P : X → Type 0) (xs : List X) → Every P xs → (i : ℕ) (x : X) → slice_get xs i ≡ Some x → P x
  every_at P [] h i x e = absurd cc
  every_at P (y ∷ ys) h zero x e = subst P (cc e) h.0
  every_at P (y ∷ ys) h (suc i) x e = every_at P ys h.1 i x e

  pub every_from : (P : X → Type 0) (xs : List X) → ((i : ℕ) (x : X) → slice_get xs i ≡ Some x → P x) → Every P xs
  every_from P [] f = tt
  every_from P (x ∷ xs) f = (f 0 x refl, every_from P xs (λ i y e. f (suc i) y e))

  pub every_elem : (P : X → Type 0) (xs : List X) (k : ℕ) (y : X) → Every P xs → get_elem? xs k ≡ some y → P y
  every_elem P [] k y h at = absurd (some-ne-none y (sym at))
  every_elem P (x ∷ xs) zero y h at = subst P (some-injective x y at) h.0
  every_elem P (x ∷ xs) (suc k) y h at = every_elem P xs k y h.1 at
