-- The digits of bytes that are written in parts.
use Rattle.std.proofs.Common.{◌≡◌, ℕ, List, [], ◌∷◌, ◌++◌, take, drop, take-append-drop, append_assoc, sym, ap, ◌∙◌}
use Rattle.std.proofs.lemmas.Grind.{flat_map-append}
use Rattle.hl_image.specs.Lines.{digits, hex}

-- the digits of a part, then those of what follows it
pub hex-split : (n : ℕ) (rest part later text : List ℕ) → part ≡ take n rest → later ≡ drop n rest → text ≡ hex part → text ++ (hex later ++ 10 ∷ []) ≡ hex rest ++ 10 ∷ []
hex-split n rest part later text front back is =
    rw (is, front, back)
    (sym (append_assoc (hex (take n rest)) (hex (drop n rest)) (10 ∷ []))
    ∙ ap (λ xs. xs ++ 10 ∷ []) (sym (flat_map-append digits (take n rest) (drop n rest)) ∙ ap hex (take-append-drop n rest)))
