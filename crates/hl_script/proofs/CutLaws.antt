-- How a script is cut where a line ends and where none does.
use Rattle.std.proofs.Common.{◌≡◌, ◌<◌, ◌≤◌, ◌⊎◌, inl, inr, ℕ, ◌+◌, ◌-◌, Bool, true, false, cond, List, [], ◌∷◌, ◌++◌, length, take, refl, sym, ap, ◌∙◌, append_assoc, append-nil, arith, length-append, length-take, length-drop}
use Rattle.std.proofs.lemmas.List.{length_push}
use Rattle.std.proofs.Math.Seq.{take-append-add}
use Rattle.std.proofs.lemmas.Bool.{or_parts}
use Rattle.std.specs.List.{list_any}
use Rattle.hl_model.specs.Lists.{until_last}
use Rattle.hl_model.proofs.ListLaws.{until_last-push, until_last-le}
use Rattle.hl_script.specs.Cut.{cut, longer, whole_lines, unfinished_line}
use Rattle.hl_script.specs.Interpreter.{is_end}

-- a byte that ends no line
pub cut-byte : (b : ℕ) (bytes : List ℕ) → is_end b ≡ false → cut (b ∷ bytes) ≡ longer b (cut bytes)
unfolding cut
cut-byte b bytes h = ap (λ c. cond c ([] ∷ cut bytes) (longer b (cut bytes))) h

-- the LF
pub cut-end : (bytes : List ℕ) → cut (10 ∷ bytes) ≡ [] ∷ cut bytes
unfolding cut
cut-end bytes = refl

pub cut-nil : cut [] ≡ []
unfolding cut
cut-nil = refl

-- a line that has ended
pub cut-line : (line bytes : List ℕ) → list_any is_end line ≡ false → cut (line ++ 10 ∷ bytes) ≡ line ∷ cut bytes
cut-line [] bytes h = cut-end bytes
cut-line (b ∷ line) bytes h =
    let parts = or_parts (is_end b) (list_any is_end line) h in
    cut-byte b (line ++ 10 ∷ bytes) parts.0 ∙ ap (longer b) (cut-line line bytes parts.1)

longer-some : (b : ℕ) (lines : List (List ℕ)) → (more : List ℕ) × (others : List (List ℕ)) × (longer b lines ≡ (b ∷ more) ∷ others)
longer-some b [] = ([], [], refl)
longer-some b (l ∷ ls) = (l, ls, refl)

-- a line that has begun
pub cut-begun : (b : ℕ) (line bytes : List ℕ) → list_any is_end (b ∷ line) ≡ false → (more : List ℕ) × (others : List (List ℕ)) × (cut ((b ∷ line) ++ bytes) ≡ ((b ∷ line) ++ more) ∷ others)
cut-begun b [] bytes h =
    let parts = or_parts (is_end b) false h in
    let some = longer-some b (cut bytes) in
    (some.0, some.1, cut-byte b bytes parts.0 ∙ some.2)
cut-begun b (c ∷ line) bytes h =
    let parts = or_parts (is_end b) (list_any is_end (c ∷ line)) h in
    let some = cut-begun c line bytes parts.1 in
    (some.0, some.1, cut-byte b ((c ∷ line) ++ bytes) parts.0 ∙ ap (longer b) some.2)

-- what follows the last LF
pub cut-last : (b : ℕ) (line : List ℕ) → list_any is_end (b ∷ line) ≡ false → cut (b ∷ line) ≡ (b ∷ line) ∷ []
cut-last b [] h =
    let parts = or_parts (is_end b) false h in
    cut-byte b [] parts.0 ∙ ap (longer b) cut-nil
cut-last b (c ∷ line) h =
    let parts = or_parts (is_end b) (list_any is_end (c ∷ line)) h in
    cut-byte b (c ∷ line) parts.0 ∙ ap (longer b) (cut-last c line parts.1)

-- bytes without an LF add nothing to the whole lines
pub until_last-none : (xs line : List ℕ) → list_any is_end line ≡ false → until_last is_end (xs ++ line) ≡ until_last is_end xs
until_last-none xs [] h = ap (until_last is_end) (append-nil xs)
until_last-none xs (b ∷ line) h =
    let parts = or_parts (is_end b) (list_any is_end line) h in
    ap (until_last is_end) (sym (append_assoc xs (b ∷ []) line))
    ∙ until_last-none (xs ++ b ∷ []) line parts.1
    ∙ until_last-push is_end xs b
    ∙ ap (λ c. cond c (length xs + 1) (until_last is_end xs)) parts.0

-- the last place that passes a test is that of the first elements, or behind them
until_last-split : (xs ys : List ℕ) → (until_last is_end (xs ++ ys) ≡ until_last is_end xs) ⊎ (length xs ≤ until_last is_end (xs ++ ys))
until_last-split xs [] = inl (ap (until_last is_end) (append-nil xs))
until_last-split xs (y ∷ ys) = by_rest (is_end y) (until_last-push is_end xs y) (until_last-split (xs ++ y ∷ []) ys)
  where
    same : until_last is_end ((xs ++ y ∷ []) ++ ys) ≡ until_last is_end (xs ++ y ∷ ys)
    same = ap (until_last is_end) (append_assoc xs (y ∷ []) ys)

    by_rest : (b : Bool) → until_last is_end (xs ++ y ∷ []) ≡ cond b (length xs + 1) (until_last is_end xs)
        → (until_last is_end ((xs ++ y ∷ []) ++ ys) ≡ until_last is_end (xs ++ y ∷ [])) ⊎ (length (xs ++ y ∷ []) ≤ until_last is_end ((xs ++ y ∷ []) ++ ys))
        → (until_last is_end (xs ++ y ∷ ys) ≡ until_last is_end xs) ⊎ (length xs ≤ until_last is_end (xs ++ y ∷ ys))
    by_rest b next (inr far) = inr (omega (arith, far, same, length_push xs y))
    by_rest true next (inl e) = inr (omega (arith, e, same, next))
    by_rest false next (inl e) = inl (sym same ∙ e ∙ next)

-- bytes that the whole lines hold
lines_hold : (front rest : List ℕ) → length front ≤ until_last is_end (front ++ rest) → (more : List ℕ) × (whole_lines (front ++ rest) ≡ front ++ more)
unfolding whole_lines
lines_hold front rest h =
    let n = until_last is_end (front ++ rest) in
    let all : n ≡ length front + (n - length front) = omega (arith, h) in
    (take (n - length front) rest, ap (λ k. take k (front ++ rest)) all ∙ take-append-add front rest (n - length front))

-- bytes that end with an LF stand in the whole lines of all that they begin
pub whole-front : (front rest : List ℕ) → whole_lines front ≡ front → (more : List ℕ) × (whole_lines (front ++ rest) ≡ front ++ more)
unfolding whole_lines
whole-front front rest w = by_place (until_last-split front rest)
  where
    here : length front ≤ until_last is_end front
    here = omega (arith, ap length w, length-take (until_last is_end front) front)

    by_place : (until_last is_end (front ++ rest) ≡ until_last is_end front) ⊎ (length front ≤ until_last is_end (front ++ rest)) → (more : List ℕ) × (whole_lines (front ++ rest) ≡ front ++ more)
    by_place (inl e) = lines_hold front rest (omega (arith, e, here))
    by_place (inr far) = lines_hold front rest far

-- and those in which a line is too long do, or it goes on
pub long-front : (front rest : List ℕ) → 80 < length (unfinished_line front) → ((more : List ℕ) × (whole_lines (front ++ rest) ≡ front ++ more)) ⊎ (80 < length (unfinished_line (front ++ rest)))
unfolding unfinished_line
long-front front rest long = by_place (until_last-split front rest)
  where
    by_place : (until_last is_end (front ++ rest) ≡ until_last is_end front) ⊎ (length front ≤ until_last is_end (front ++ rest)) → ((more : List ℕ) × (whole_lines (front ++ rest) ≡ front ++ more)) ⊎ (80 < length (unfinished_line (front ++ rest)))
    by_place (inl e) = inr (omega (
      arith,
      long,
      e,
      length-append front rest,
      until_last-le is_end front,
      length-drop (until_last is_end front) front,
      length-drop (until_last is_end (front ++ rest)) (front ++ rest),
    ))
    by_place (inr far) = inl (lines_hold front rest far)
