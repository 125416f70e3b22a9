-- A script's line that was read with an LF behind it.
use Rattle.std.proofs.Common.{◌≡◌, ℕ, ◌+◌, List, [], ◌∷◌, ◌++◌, length, take, sym, ap, ap₂, ◌∙◌, arith, take_all}
use Rattle.std.proofs.lemmas.List.{length_push}
use Rattle.std.proofs.Math.Seq.{take-append_seam}

-- what is spelled there are these bytes
pub usual_line : (bytes spelled : List ℕ) (n : ℕ) → n ≡ length bytes + 1 → spelled ++ 10 ∷ [] ≡ take n (bytes ++ 10 ∷ []) → spelled ≡ bytes
usual_line bytes spelled n all is =
    let same : spelled ++ 10 ∷ [] ≡ bytes ++ 10 ∷ [] = is ∙ take_all n (bytes ++ 10 ∷ []) (omega (arith, length_push bytes 10)) in
    let long : length spelled ≡ length bytes = omega (arith, ap length same, length_push spelled 10, length_push bytes 10) in
    sym (take-append_seam spelled (10 ∷ [])) ∙ ap₂ take long same ∙ take-append_seam bytes (10 ∷ [])
