-- What leaves the row of taken actions; and where a number stands among rising ones.
use Rattle.std.proofs.Common.{◌==◌, ◌≡◌, ◌≢◌, ℕ, ◌+◌, ◌-◌, ◌<◌, ◌≤◌, ◌⊎◌, suc, Bool, true, false, ltb, cond, Some, None, List, ◌++◌, length, map, take, drop, remove, position, get_or, sym, ap, ◌∙◌, arith, take_all, append_assoc, length-take, length-drop, ne_eqb, eq-eqb, inl, inr, lt-ltb, le-ltb, refl, [], ◌∷◌}
use Rattle.std.specs.List.{position_or_len, copy_within}
use Rattle.std.specs.List.Sorted.{IsNonDecreasingBy, IsPartitionPoint}
use Rattle.std.proofs.Math.ListN.{get_or-map}
use Rattle.std.proofs.lemmas.Bool.{cases_lt, ltb-true, ltb-false}
use Rattle.std.proofs.lemmas.List.{drop_at, drop-append-le, drop-drop, drop-take, length-map}
use Rattle.std.proofs.lemmas.List.Edits.{length-paste, take-paste, drop-paste}
use Rattle.std.proofs.lemmas.List.Sums.{position_or_len_is}
use Rattle.hl_drain.specs.Taken.{Rises}

module _ {X : Type 0} (n : X → ℕ) where
  -- an element with this number
  abbrev has : ℕ → X → Bool
  has t x = n x == t

  -- an earlier element has a lesser number
  rising_at : (xs : List X) (i j : ℕ) (d : X) → Rises (map n xs) → i < j → j < length xs → n (get_or xs i d) < n (get_or xs j d)
  rising_at xs i j d rises before within =
      let h = rises i j (n d) before (omega (arith, within, length-map xs n)) in
      omega (arith, h, get_or-map n xs i d, get_or-map n xs j d)

  -- or none that is greater
  pub not_falling : (xs : List X) → Rises (map n xs) → IsNonDecreasingBy n xs
  not_falling xs rises i j d before within =
      elim (cases_lt i j) [
        | inl earlier ↦ let h = rising_at xs i j d rises earlier within in omega (arith, h)
        | inr later ↦ let same : i ≡ j = omega (arith, before, later) in omega (arith, ap (λ k. n (get_or xs k d)) same)
      ]

  -- the numbers before the point are below t, and the others aren't
  abbrev pub IsPoint : ℕ → List X → ℕ → Type 0
  IsPoint t xs i = IsPartitionPoint (λ (x : X). ltb (n x) t ≡ true) (λ x. ltb (n x) t ≡ false) xs i

  before_point : (t : ℕ) (xs : List X) (i k : ℕ) (d : X) → IsPoint t xs i → k < i → has t (get_or xs k d) ≡ false
  before_point t xs i k d point before =
      let below = ltb-true (n (get_or xs k d)) t (point.0 k d (omega arith) before) in
      ne_eqb (n (get_or xs k d)) t (λ e. absurd (omega (arith, below, e)))

  -- the element at the point has the number
  pub place_here : (t : ℕ) (xs : List X) (i : ℕ) (d : X) → IsPoint t xs i → i < length xs → n (get_or xs i d) ≡ t → Some i ≡ position (has t) xs
  place_here t xs i d point within e =
      let place : position_or_len (has t) xs ≡ i = position_or_len_is (has t) xs i d (omega (arith, within)) (λ k before. before_point t xs i k d point before) (λ h. eq-eqb (n (get_or xs i d)) t e) in
      sym (ap (λ m. cond (ltb m (length xs)) (Some m) None) place ∙ ap (λ b. cond b (Some i) None) (lt-ltb i (length xs) within))

  -- no element has it
  pub place_nowhere : (t : ℕ) (xs : List X) (i : ℕ) (d : X) → Rises (map n xs) → IsPoint t xs i → (i < length xs → n (get_or xs i d) ≢ t) → None ≡ position (has t) xs
  place_nowhere t xs i d rises point other =
      let place : position_or_len (has t) xs ≡ length xs = position_or_len_is (has t) xs (length xs) d (omega arith) (λ k within. by_point k within (cases_lt k i)) (λ h. absurd (omega (arith, h))) in
      sym (ap (λ m. cond (ltb m (length xs)) (Some m) None) place ∙ ap (λ b. cond b (Some (length xs)) None) (le-ltb (length xs) (length xs) (omega arith)))
    where
      at_point : (k : ℕ) → k < length xs → i ≤ k → n (get_or xs k d) ≢ t
      at_point k within behind = elim (cases_lt i k) [
        | inl later ↦
            let above = ltb-false (n (get_or xs i d)) t (point.1 i d (omega arith) (omega (arith, later, within))) in
            let more = rising_at xs i k d rises later within in
            λ e. absurd (omega (arith, above, more, e))
        | inr same ↦
            let here : k ≡ i = omega (arith, same, behind) in
            λ e. other (omega (arith, here, within)) (sym (ap (λ j. n (get_or xs j d)) here) ∙ e)
      ]

      by_point : (k : ℕ) → k < length xs → (k < i) ⊎ (i ≤ k) → has t (get_or xs k d) ≡ false
      by_point k within (inl before) = before_point t xs i k d point before
      by_point k within (inr behind) = ne_eqb (n (get_or xs k d)) t (at_point k within behind)

  -- all have lesser numbers
  pub place_past : (t : ℕ) (xs : List X) (i : ℕ) → Rises (map n xs) → IsPoint t xs i → length xs ≤ i → None ≡ position (has t) xs
  place_past t [] i rises point past = refl
  place_past t (x ∷ xs) i rises point past = place_nowhere t (x ∷ xs) i x rises point (λ within. absurd (omega (arith, within, past)))

-- an action leaves the row behind the gap, from its back
pub removed_back : {X : Type 0} (xs : List X) (first place : ℕ) → first + place ≤ length xs → drop first (remove xs (first + place)) ≡ remove (drop first xs) place
removed_back xs first place within =
    let front = take (first + place) xs in
    let long : first ≤ length front = omega (arith, length-take (first + place) xs, within) in
    let next : suc (first + place) ≡ first + suc place = omega arith in
    drop-append-le first front (drop (suc (first + place)) xs) long
    ∙ ap (λ z. z ++ drop (suc (first + place)) xs) (drop-take first place xs)
    ∙ ap (λ n. take place (drop first xs) ++ drop n xs) next
    ∙ ap (λ z. take place (drop first xs) ++ z) (sym (drop-drop (suc place) first xs))

-- or from its front, by which the gap grows
pub removed_front : {X : Type 0} (xs : List X) (first place : ℕ) → first + place < length xs → drop (first + 1) (copy_within xs first (first + place) (first + 1)) ≡ remove (drop first xs) place
removed_front xs first place within =
    let moved = take (first + place - first) (drop first xs) in
    let rest = drop (first + 1 + (first + place - first)) xs in
    let count : first + place - first ≡ place = omega arith in
    let far : first + 1 + (first + place - first) ≡ first + suc place = omega arith in
    ap (λ z. drop (first + 1) z) (append_assoc (take (first + 1) xs) moved rest)
    ∙ drop_at (take (first + 1) xs) (moved ++ rest) (first + 1) (omega (arith, length-take (first + 1) xs, within))
    ∙ ap (λ n. take n (drop first xs) ++ rest) count
    ∙ ap (λ n. take place (drop first xs) ++ drop n xs) far
    ∙ ap (λ z. take place (drop first xs) ++ z) (sym (drop-drop (suc place) first xs))

-- the row without its gap, and without an action: those before it are moved to the front, and those behind it after them
pub closed : {X : Type 0} (xs : List X) (first place : ℕ) → first + place < length xs → let front = copy_within xs first (first + place) 0 in take (length xs - first - 1) (copy_within front (first + place + 1) (length front) place) ≡ remove (drop first xs) place
closed xs first place within =
    let count : ℕ = first + place - first in
    let front = copy_within xs first (first + place) 0 in
    let long : length front ≡ length xs = length-paste xs 0 (drop first xs) count (omega (arith, within)) (omega (arith, within, length-drop first xs)) in
    let behind : ℕ = length front - (first + place + 1) in
    let left : length xs - first - 1 ≡ place + behind = omega (arith, within, long) in
    let begun : take place front ≡ take place (drop first xs) =
    let all : place ≡ 0 + count = omega arith in
    ap (λ n. take n front) all
    ∙ take-paste xs 0 (drop first xs) count (omega arith) (omega (arith, within, length-drop first xs))
    ∙ ap (λ n. take n (drop first xs)) (omega arith) in
    let next : first + place + 1 ≡ 0 + count + suc first = omega arith in
    let far : 0 + count + suc first ≡ first + suc place = omega arith in
    let rest : drop (first + place + 1) front ≡ drop (suc place) (drop first xs) =
    ap (λ n. drop n front) next
    ∙ sym (drop-drop (suc first) (0 + count) front)
    ∙ ap (drop (suc first)) (drop-paste xs 0 (drop first xs) count (omega arith) (omega (arith, within, length-drop first xs)))
    ∙ drop-drop (suc first) (0 + count) xs
    ∙ ap (λ n. drop n xs) far
    ∙ sym (drop-drop (suc place) first xs) in
    ap (λ n. take n (copy_within front (first + place + 1) (length front) place)) left
    ∙ take-paste front place (drop (first + place + 1) front) behind (omega (arith, within, long)) (omega (arith, length-drop (first + place + 1) front))
    ∙ ap (λ z. take place front ++ z) (take_all behind (drop (first + place + 1) front) (omega (arith, length-drop (first + place + 1) front)))
    ∙ ap (λ z. z ++ drop (first + place + 1) front) begun
    ∙ ap (λ z. take place (drop first xs) ++ z) rest
