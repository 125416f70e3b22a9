-- A scan of a log's words finds its records.
use Rattle.std.proofs.Common.{◌≡◌, ◌≢◌, ℕ, suc, ◌+◌, ◌-◌, ◌<◌, ◌≤◌, ◌⊎◌, ◌==◌, ◌&&◌, not, Bool, true, false, eq-eqb, eqb-true, ne_eqb, if◌then◌else◌, take, drop, List, [], ◌∷◌, ◌++◌, length, Some, slice_get, get_or, refl, sym, ap, ◌∙◌, subst, inl, inr, ⊎_elim, arith}
use Rattle.std.proofs.lemmas.Bool.{and_from}
use Rattle.std.proofs.lemmas.List.{get_or-drop, get_or-take, get_or_push, length-drop, length-take-le, length_push, same_lists}
use Rattle.std.proofs.lemmas.Option.{slice_get-get_or}
use Rattle.hl_traces.specs.Records.{Appended}
use Rattle.hl.specs.Scans.{AreBelow, AreWhole, CanScan, HasEnds, IsRefusedAt, IsWholeAt}
use Rattle.example_records.specs.Records.{framed, is_framed}

-- a framed row is one
pub framed_is : (contents : List ℕ) → is_framed (framed contents) ≡ true
framed_is contents =
    let long : length (framed contents) ≡ length contents + 2 = omega (arith, length_push contents 1) in
    let place : length (framed contents) - 1 ≡ suc (length contents) = omega (arith, long) in
    let last : get_or (framed contents) (length (framed contents) - 1) 0 ≡ 1 = ap (λ (n : ℕ). get_or (framed contents) n 0) place ∙ get_or_push contents 1 0 (length contents) refl in
    and_from _ _ (eq-eqb (length contents + 2) (length (framed contents)) (sym long)) (ap (λ (n : ℕ). not (n == 0)) last)

-- what a framed row begins with, and ends with
framed_parts : (row : List ℕ) → is_framed row ≡ true → (get_or row 0 0 ≡ length row) × (get_or row (length row - 1) 0 ≢ 0)
framed_parts row is = by (get_or row 0 0 == length row) (get_or row (length row - 1) 0 == 0) refl refl is
  where
    by : (p q : Bool) → (get_or row 0 0 == length row) ≡ p → (get_or row (length row - 1) 0 == 0) ≡ q → (p && not q) ≡ true → (get_or row 0 0 ≡ length row) × (get_or row (length row - 1) 0 ≢ 0)
    by true false e f all = (eqb-true (get_or row 0 0) (length row) e, λ none. absurd (cc (sym f ∙ eq-eqb (get_or row (length row - 1) 0) 0 none)))
    by true true e f all = absurd (cc all)
    by false q e f all = absurd (cc all)

framed_some : (row : List ℕ) → is_framed row ≡ true → 0 < length row
framed_some [] is = absurd ((framed_parts [] is).1 refl)
framed_some (w ∷ row) is = omega arith

pub first_of : (row : List ℕ) → is_framed row ≡ true → slice_get row 0 ≡ Some (length row)
first_of row is = slice_get-get_or row 0 0 (framed_some row is) ∙ ap (λ (n : ℕ). Some n) (framed_parts row is).0

pub framed_ends : HasEnds is_framed
framed_ends row is = (λ none. omega (arith, none, (framed_parts row is).0, framed_some row is), (framed_parts row is).1)

-- one step of a scan: from a word that isn't 0 on, behind as many as it says
module _ (words : List ℕ) (records : ℕ → List Appended) (can : CanScan is_framed words records) (at : ℕ) (found : List (ℕ × List ℕ)) (below : AreBelow records at found) {long : ℕ} (there : slice_get words at ≡ Some long) (some : long ≢ 0) where
  over : (own : List ℕ) × (is_framed own ≡ true) × (get_or own 0 0 ≡ long) × (IsWholeAt words records at found own ⊎ IsRefusedAt words records at found own)
  over = can.over at long found below there some

  own_long : length over.0 ≡ long
  own_long = sym (framed_parts over.0 over.1).0 ∙ over.2

  -- if so many aren't there, the record there isn't whole, and none lies behind it
  pub broken : length words < at + long → AreWhole records found
  broken far = ⊎_elim (λ (is : IsWholeAt words records at found over.0). absurd (omega (arith, far, own_long, is.inside))) (λ (is : IsRefusedAt words records at found over.0). can.end (at + length over.0) found is.next (omega (arith, far, own_long))) over.3

  -- else they were found if the last of them isn't 0
  pub stepped : at + long ≤ length words → {more : List (ℕ × List ℕ)} → more ≡ (let row = take (at + long - at) (drop at words) in (if get_or row (length row - 1) 0 == 0 then found else (found ++ (at, row) ∷ []))) → AreBelow records (at + long) more
  stepped inside {more} is = by over.3
    where
      row : List ℕ
      row = take (at + long - at) (drop at words)

      row_is : (m d : ℕ) → m < long → get_or row m d ≡ get_or words (at + m) d
      row_is m d less = get_or-take (at + long - at) (drop at words) m d (omega (arith, less)) ∙ get_or-drop at words m d

      row_long : length row ≡ long
      row_long = omega (arith, length-take-le (at + long - at) (drop at words) (omega (arith, length-drop at words, inside)))

      put_or : (b : Bool) → (get_or row (length row - 1) 0 == 0) ≡ b → more ≡ (if b then found else (found ++ (at, row) ∷ []))
      put_or b e = is ∙ ap (λ (b : Bool). if b then found else (found ++ (at, row) ∷ [])) e

      by : IsWholeAt words records at found over.0 ⊎ IsRefusedAt words records at found over.0 → AreBelow records (at + long) more
      by (inl whole) =
          let same : row ≡ over.0 = same_lists row over.0 (row_long ∙ sym own_long) (λ m d less. row_is m d (omega (arith, less, row_long)) ∙ whole.there m d (omega (arith, less, row_long, own_long))) in
          let sealed : get_or row (length row - 1) 0 ≢ 0 = subst (λ (r : List ℕ). get_or r (length r - 1) 0 ≢ 0) (sym same) (framed_parts over.0 over.1).1 in
          let put = subst (λ (r : List ℕ). AreBelow records (at + length r) (found ++ (at, r) ∷ [])) (sym same) whole.next in
          subst (AreBelow records (at + long)) (sym (put_or false (ne_eqb (get_or row (length row - 1) 0) 0 sealed))) (subst (λ (n : ℕ). AreBelow records (at + n) (found ++ (at, row) ∷ [])) row_long put)
      by (inr refused) =
          let there_is = ap (slice_get words) (omega (arith, own_long)) ∙ slice_get-get_or words (at + (long - 1)) 0 (omega (arith, inside, some)) in
          let none : get_or row (length row - 1) 0 ≡ 0 = ap (λ (n : ℕ). get_or row (n - 1) 0) row_long ∙ row_is (long - 1) 0 (omega (arith, some)) ∙ refused.last _ there_is in
          subst (AreBelow records (at + long)) (sym (put_or true (eq-eqb (get_or row (length row - 1) 0) 0 none))) (subst (λ (n : ℕ). AreBelow records (at + n) found) own_long refused.next)
