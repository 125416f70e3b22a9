-- What a quantity of a list's beginning becomes when one step more has been read.
use Rattle.std.proofs.Common.{◌≡◌, ℕ, ◌+◌, ◌<◌, Bool, cond, List, [], ◌∷◌, ◌++◌, length, take, get_or, refl, ap, ◌∙◌, arith}
use Rattle.std.specs.List.{fold}
use Rattle.std.proofs.lemmas.List.{take_more, length-take}
use Rattle.hl_model.specs.declared.step.Step.{Step}
use Rattle.hl_model.specs.Lists.{until_last}
use Rattle.hl_model.specs.Bases.{Base}
use Rattle.hl_model.specs.Offsets.{tail_past}
use Rattle.hl_model.specs.AfterOffsets.{tail_after}
use Rattle.hl_model.proofs.ListLaws.{until_last-push}

-- the last place
pub until_last-next : {X : Type 0} (p : X → Bool) (xs : List X) (i : ℕ) (d : X) → i < length xs → until_last p (take (i + 1) xs) ≡ cond (p (get_or xs i d)) (i + 1) (until_last p (take i xs))
until_last-next p xs i d h =
    let long : length (take i xs) ≡ i = omega (arith, length-take i xs) in
    ap (until_last p) (take_more xs i d h) ∙ until_last-push p (take i xs) (get_or xs i d)
    ∙ ap (λ n. cond (p (get_or xs i d)) (n + 1) (until_last p (take i xs))) long

pub until_last-none : {X : Type 0} (p : X → Bool) → until_last p [] ≡ 0
unfolding until_last
until_last-none p = refl

fold-push : {X Y : Type 0} (f : Y → X → Y) (z : Y) (xs : List X) (x : X) → fold f z (xs ++ x ∷ []) ≡ f (fold f z xs) x
fold-push f z [] x = refl
fold-push f z (y ∷ xs) x = fold-push f (f z y) xs x

-- the tail
pub tail-push : (b : Base) (L : List Step) (s : Step) → tail_after b (L ++ s ∷ []) ≡ tail_past b.sizes.page_size (tail_after b L) s
unfolding tail_after
tail-push b L s = fold-push (tail_past b.sizes.page_size) b.six.tail L s

pub tail-next : (b : Base) (L : List Step) (i : ℕ) (d : Step) → i < length L → tail_after b (take (i + 1) L) ≡ tail_past b.sizes.page_size (tail_after b (take i L)) (get_or L i d)
tail-next b L i d h = ap (tail_after b) (take_more L i d h) ∙ tail-push b (take i L) (get_or L i d)

pub tail-none : (b : Base) → tail_after b [] ≡ b.six.tail
unfolding tail_after
tail-none b = refl
