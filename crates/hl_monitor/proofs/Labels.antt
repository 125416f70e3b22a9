-- Lines that are written one after another.
use Rattle.std.proofs.Common.{◌≡◌, ℕ, ◌+◌, ◌<◌, Bool, true, false, List, [], ◌∷◌, ◌++◌, length, drop, decimal, refl, sym, ap, add-one, drop-cons, length-append, arith, get_or}
use Rattle.std.specs.Borrow.{Bor}
use Rattle.std.specs.List.{list_all}
use Rattle.std.proofs.lemmas.List.Folds.{list_all_at}
use Rattle.hl_monitor.specs.Reports.{left_in, right_in, line_of, is_label, lines_of}

-- a label and its number, as they stand in the text
abbrev pub line_at : List (Bor (List ℕ) × ℕ) → ℕ → Bor (List ℕ) × ℕ → List ℕ
line_at lines i d = line_of ((get_or lines i d).0.now, (get_or lines i d).1)

-- the lines from one on are that line and the others
pub lines_of-drop : (lines : List (Bor (List ℕ) × ℕ)) (i : ℕ) (d : Bor (List ℕ) × ℕ) → i < length lines
    → line_at lines i d ++ lines_of (drop (i + 1) lines) ≡ lines_of (drop i lines)
lines_of-drop lines i d within = sym (rw (add-one, drop-cons lines i d within) refl)

-- they are some text
pub lines_of-some : (lines : List (Bor (List ℕ) × ℕ)) (i : ℕ) → i < length lines → 0 < length (lines_of (drop i lines))
unfolding line_of
lines_of-some lines i within =
    let d : Bor (List ℕ) × ℕ = (record { ref_ptr = (0, 0); now = [] }, 0) in
    let line = get_or lines i d in
    let text = lines_of (drop (i + 1) lines) in
    let right = right_in 20 (decimal line.1) in
    omega (arith, ap length (lines_of-drop lines i d within), length-append (line_at lines i d) text, length-append (left_in 16 line.0.now) (right ++ 10 ∷ []), length-append right (10 ∷ []))

-- each of some labels is one
pub label_at : (lines : List (Bor (List ℕ) × ℕ)) (i : ℕ) (d : Bor (List ℕ) × ℕ) → list_all (λ line. is_label line.0.now) lines ≡ true
    → i < length lines → is_label (get_or lines i d).0.now ≡ true
label_at lines i d all within = by (is_label (get_or lines i d).0.now) refl
  where
    by : (t : Bool) → is_label (get_or lines i d).0.now ≡ t → is_label (get_or lines i d).0.now ≡ true
    by true is = is
    by false is = let none = list_all_at (λ (line : Bor (List ℕ) × ℕ). is_label line.0.now) lines i d within is in cc
