-- What a writer in memory has of its pages after a write.
use Rattle.std.proofs.Common.{◌≡◌, ◌≢◌, ℕ, zero, suc, ◌<◌, List, [], ◌∷◌, Bool, true, false, length, slice_set, refl, ap, ◌∙◌, arith}
use Rattle.std.specs.Prelude.{Some, slice_get, ◌||◌}
use Rattle.std.specs.Option.{option_flatten}
use Rattle.std.proofs.lemmas.Bool.{leb-false}
use Rattle.hl_image.specs.Pages.{Pages, image_at, IsStored}

set_same : {X : Type 0} (xs : List X) (i : ℕ) (x : X) → i < length xs → slice_get (slice_set xs i x) i ≡ Some x
set_same [] i x h = absurd (omega arith)
set_same (y ∷ xs) zero x h = refl
set_same (y ∷ xs) (suc i) x h = set_same xs i x (omega arith)

set_other : {X : Type 0} (xs : List X) (i j : ℕ) (x : X) → j ≢ i → slice_get (slice_set xs i x) j ≡ slice_get xs j
set_other [] i j x h = refl
set_other (y ∷ xs) zero zero x h = absurd (h refl)
set_other (y ∷ xs) zero (suc j) x h = refl
set_other (y ∷ xs) (suc i) zero x h = refl
set_other (y ∷ xs) (suc i) (suc j) x h = set_other xs i j x (λ e. h (ap suc e))

-- a write that isn't refused is of a page that there is
there_is : (due beyond long : Bool) → (due || beyond || long) ≡ false → beyond ≡ false
there_is false false long e = refl
there_is false true long e = absurd cc
there_is true beyond long e = absurd cc

-- the page that was stored
pub stored_there : (before : Pages) (page : ℕ) (bytes : List ℕ) (after : Pages) → IsStored before page bytes after → image_at page after ≡ Some bytes
stored_there before page bytes after stored =
    let inside = leb-false (length before.images) page (there_is _ _ _ stored.accepted) in
    ap (image_at page) stored.changed ∙ ap option_flatten (set_same before.images page (Some bytes) inside)

-- another page
pub others_stay : (before : Pages) (page : ℕ) (bytes : List ℕ) (after : Pages) → IsStored before page bytes after → (other : ℕ) (image : List ℕ) → other ≢ page → image_at other before ≡ Some image → image_at other after ≡ Some image
others_stay before page bytes after stored other image apart was =
    ap (image_at other) stored.changed ∙ ap option_flatten (set_other before.images page other (Some bytes) apart) ∙ was
