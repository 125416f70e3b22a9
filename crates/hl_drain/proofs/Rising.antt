-- Rising tickets.
use Rattle.std.proofs.Common.{ℕ, ◌<◌, List, ◌∷◌, ◌++◌, All, arith, suc, length-append}
use Rattle.std.proofs.lemmas.List.{get_or_append_left}
use Rattle.hl_drain.specs.Taken.{Rises}

-- the first number is below all others
pub rises_head : (x : ℕ) (xs : List ℕ) → Rises (x ∷ xs) → All (λ y. x < y) xs
rises_head x xs rises = λ k d within. rises 0 (suc k) d (omega arith) (omega arith)

-- the others rise
pub rises_tail : (x : ℕ) (xs : List ℕ) → Rises (x ∷ xs) → Rises xs
rises_tail x xs rises = λ i j d before within. rises (suc i) (suc j) d (omega arith) (omega arith)

-- the first numbers rise
pub rises_front : (xs ys : List ℕ) → Rises (xs ++ ys) → Rises xs
rises_front xs ys rises = λ i j d before within.
    let h = rises i j d before (omega (arith, within, length-append xs ys)) in
    omega (arith, h, get_or_append_left xs ys d i (omega (arith, before, within)), get_or_append_left xs ys d j within)
