-- The good lines of a script, and the first bad one.
use Rattle.std.proofs.Common.{◌≡◌, ℕ, ◌+◌, false, cond, eqb, List, [], ◌∷◌, ◌++◌, length, refl, sym, ap, ◌∙◌, append_assoc, append-nil, arith, length-append, ne_eqb}
use Rattle.std.specs.Prelude.{Option, Some, None}
use Rattle.std.specs.Option.{option_map_or}
use Rattle.hl_line.specs.declared.line.Line.{Line}
use Rattle.hl_line.specs.Reading.{line_of}
use Rattle.hl_script.specs.Cut.{cut}
use Rattle.hl_script.specs.Lines.{allowed, good_lines, script, bad_line}
use Rattle.hl_script.specs.Interpreter.{Faces}

pub good-nil : (before : List Line) → good_lines before [] ≡ []
unfolding good_lines
good-nil before = refl

-- at a line that is no step the good lines end
pub good-bad : (before : List Line) (bytes : List ℕ) (others : List (List ℕ)) → allowed before (line_of bytes) ≡ None → good_lines before (bytes ∷ others) ≡ []
unfolding good_lines
good-bad before bytes others h = ap (λ o. option_map_or (λ line. line ∷ good_lines (before ++ line ∷ []) others) o []) h

-- a good line
pub good-line : (before : List Line) (bytes : List ℕ) (others : List (List ℕ)) (line : Line) → allowed before (line_of bytes) ≡ Some line → good_lines before (bytes ∷ others) ≡ line ∷ good_lines (before ++ line ∷ []) others
unfolding good_lines
good-line before bytes others line h = ap (λ o. option_map_or (λ l. l ∷ good_lines (before ++ l ∷ []) others) o []) h

-- after good lines come the good ones of the others
pub good-append : (start : List Line) (front others : List (List ℕ)) → length (good_lines start front) ≡ length front → good_lines start (front ++ others) ≡ good_lines start front ++ good_lines (start ++ good_lines start front) others
good-append start [] others h = rw (good-nil start) (ap (λ s. good_lines s others) (sym (append-nil start)))
good-append start (bytes ∷ front) others h = by_line (λ next all. good-append next front others all) (allowed start (line_of bytes)) refl
  where
    by_line : ((next : List Line) → length (good_lines next front) ≡ length front → good_lines next (front ++ others) ≡ good_lines next front ++ good_lines (next ++ good_lines next front) others) → (o : Option Line) → allowed start (line_of bytes) ≡ o → good_lines start (bytes ∷ (front ++ others)) ≡ good_lines start (bytes ∷ front) ++ good_lines (start ++ good_lines start (bytes ∷ front)) others
    by_line later None is =
        let none : length (good_lines start (bytes ∷ front)) ≡ 0 = ap length (good-bad start bytes front is) in
        absurd (omega (arith, h))
    by_line later (Some line) is =
        let here : good_lines start (bytes ∷ front) ≡ line ∷ good_lines (start ++ line ∷ []) front = good-line start bytes front line is in
        let all : length (good_lines (start ++ line ∷ []) front) ≡ length front = omega (arith, h, ap length here) in
        good-line start bytes (front ++ others) line is
        ∙ ap (λ z. line ∷ z) (later (start ++ line ∷ []) all)
        ∙ ap (λ z. line ∷ (good_lines (start ++ line ∷ []) front ++ good_lines z others)) (append_assoc start (line ∷ []) (good_lines (start ++ line ∷ []) front))
        ∙ sym (ap (λ z. z ++ good_lines (start ++ z) others) here)

-- at a bad line the lines before are the script's
pub record IsBad (bytes : List ℕ) (before : List Line) : Type 0 where
  pub lines : script bytes ≡ before
  pub number : bad_line bytes ≡ Some (length before + 1)

-- the lines after good ones
faces_lines : (bytes : List ℕ) (before : List Line) (line : List ℕ) → (f : Faces bytes before line) → script bytes ≡ before ++ good_lines before (line ∷ f.others)
unfolding script
faces_lines bytes before line f =
    ap (good_lines []) f.cuts
    ∙ good-append [] f.front (line ∷ f.others) (ap length f.good ∙ sym f.all)
    ∙ ap (λ z. z ++ good_lines z (line ∷ f.others)) f.good

pub faces_bad : (bytes : List ℕ) (before : List Line) (line : List ℕ) → Faces bytes before line → allowed before (line_of line) ≡ None → IsBad bytes before
unfolding bad_line
faces_bad bytes before line f h = record { lines = lines; number = ap (λ z. cond z None (Some (length (script bytes) + 1))) fewer ∙ ap (λ z. Some (length z + 1)) lines }
  where
    lines : script bytes ≡ before
    lines = faces_lines bytes before line f ∙ ap (λ z. before ++ z) (good-bad before line f.others h) ∙ append-nil before

    fewer : eqb (length (script bytes)) (length (cut bytes)) ≡ false
    fewer = ne_eqb (length (script bytes)) (length (cut bytes)) (λ e. absurd (omega (arith, e, ap length lines, ap length f.cuts, length-append f.front (line ∷ f.others), f.all)))

pub faces_good : (bytes : List ℕ) (before : List Line) (raw : List ℕ) (line : Line) → Faces bytes before raw → allowed before (line_of raw) ≡ Some line → (others : List Line) × (script bytes ≡ before ++ line ∷ others)
faces_good bytes before raw line f h =
    (good_lines (before ++ line ∷ []) f.others, faces_lines bytes before raw f ∙ ap (λ z. before ++ z) (good-line before raw f.others line h))
