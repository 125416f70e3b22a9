-- How far a run has come in its input: one byte more, one line more, and the end.
use Rattle.std.proofs.Common.{◌≡◌, ◌≢◌, ◌<◌, ℕ, ◌+◌, false, cond, List, [], ◌∷◌, ◌++◌, length, take, drop, refl, sym, ap, ◌∙◌, subst, append_assoc, append-nil, arith, length-append, eq-eqb}
use Rattle.std.specs.Prelude.{Some, None}
use Rattle.std.specs.List.{list_any}
use Rattle.std.proofs.lemmas.List.{length_push}
use Rattle.std.proofs.Math.Seq.{take-append_seam, take-length, drop-append_seam}
use Rattle.hl_model.specs.Lists.{until_last}
use Rattle.hl_model.proofs.ListLaws.{until_last-push}
use Rattle.hl_line.specs.declared.line.Line.{Line}
use Rattle.hl_line.specs.Reading.{line_of}
use Rattle.hl_line.proofs.Reading.{line_of-long}
use Rattle.hl_script.specs.Cut.{cut, whole_lines, unfinished_line}
use Rattle.hl_script.specs.Lines.{allowed, good_lines, script, bad_line}
use Rattle.hl_script.specs.Interpreter.{is_end, Reached, Faces, IsGood}
use Rattle.hl_script.proofs.CutLaws.{cut-nil, cut-line, cut-begun, cut-last, until_last-none}
use Rattle.hl_script.proofs.LineLaws.{good-nil, good-line, good-append}

-- the lines are whole behind an LF
pub whole-end : (bytes : List ℕ) → whole_lines (bytes ++ 10 ∷ []) ≡ bytes ++ 10 ∷ []
unfolding whole_lines
whole-end bytes = ap (λ n. take n (bytes ++ 10 ∷ [])) (until_last-push is_end bytes 10 ∙ sym (length_push bytes 10)) ∙ take-length (bytes ++ 10 ∷ [])

-- before the first byte
pub reached_start : Reached [] [] []
unfolding script good_lines cut until_last
reached_start = record { whole = []; parts = refl; closed = λ more. refl; good = refl; all = refl; ended = refl; no_end = refl }

-- some bytes of a line that none was begun of
pub reached_bytes : (done : List ℕ) (before : List Line) (line bytes : List ℕ) → Reached done before line → line ≡ [] → list_any is_end bytes ≡ false → Reached (done ++ bytes) before bytes
reached_bytes done before line bytes r none h = record {
  whole = r.whole;
  parts = ap (λ z. z ++ bytes) (r.parts ∙ ap (λ z. r.whole ++ z) none ∙ append-nil r.whole);
  closed = r.closed;
  good = r.good;
  all = r.all;
  ended = r.ended;
  no_end = h;
}

-- the line so far, with what follows it
reached_cut : (done : List ℕ) (before : List Line) (line more : List ℕ) → (r : Reached done before line) → cut (done ++ more) ≡ cut r.whole ++ cut (line ++ more)
reached_cut done before line more r =
    ap (λ z. cut (z ++ more)) r.parts ∙ ap cut (append_assoc r.whole line more) ∙ r.closed (line ++ more)

faces_at : (done : List ℕ) (before : List Line) (line more next : List ℕ) (others : List (List ℕ)) → Reached done before line → cut (line ++ more) ≡ next ∷ others → Faces (done ++ more) before next
unfolding script
faces_at done before line more next others r e = record {
  front = cut r.whole;
  others = others;
  cuts = reached_cut done before line more r ∙ ap (λ z. cut r.whole ++ z) e;
  good = r.good;
  all = r.all;
}

-- the line ends here
pub reached_end : (done : List ℕ) (before : List Line) (line more : List ℕ) → Reached done before line → Faces (done ++ 10 ∷ more) before line
reached_end done before line more r = faces_at done before line (10 ∷ more) line (cut more) r (cut-line line more r.no_end)

-- a line of more than 80 bytes is none, however it goes on
pub reached_long : (done : List ℕ) (before : List Line) (line more : List ℕ) → Reached done before line → 80 < length line → (next : List ℕ) × Faces (done ++ more) before next × (line_of next ≡ None)
reached_long done before [] more r long = absurd (omega (arith, long))
reached_long done before (c ∷ line) more r long =
    let begun = cut-begun c line more r.no_end in
    let next : List ℕ = (c ∷ line) ++ begun.0 in
    (next, faces_at done before (c ∷ line) more next begun.1 r begun.2, line_of-long next (omega (arith, length-append (c ∷ line) begun.0, long)))

-- the input ends in a line
pub reached_last : (done : List ℕ) (before : List Line) (line : List ℕ) → Reached done before line → line ≢ [] → Faces done before line
reached_last done before [] r ne = absurd (ne refl)
reached_last done before (b ∷ line) r ne =
    subst (λ z. Faces z before (b ∷ line)) (append-nil done)
    (faces_at done before (b ∷ line) [] (b ∷ line) [] r (ap cut (append-nil (b ∷ line)) ∙ cut-last b line r.no_end))

-- a good line has ended
pub reached_line : (done : List ℕ) (before : List Line) (line : List ℕ) (found : Line) → Reached done before line → allowed before (line_of line) ≡ Some found → Reached (done ++ 10 ∷ []) (before ++ found ∷ []) []
unfolding script
reached_line done before line found r h = record {
  whole = done ++ 10 ∷ [];
  parts = sym (append-nil (done ++ 10 ∷ []));
  closed = λ more.
      ap cut (append_assoc done (10 ∷ []) more)
      ∙ reached_cut done before line (10 ∷ more) r
      ∙ ap (λ z. cut r.whole ++ z) (cut-line line more r.no_end)
      ∙ sym (append_assoc (cut r.whole) (line ∷ []) (cut more))
      ∙ ap (λ z. z ++ cut more) (sym cuts);
  good = ap (good_lines []) cuts
      ∙ good-append [] (cut r.whole) (line ∷ []) (ap length r.good ∙ sym r.all)
      ∙ ap (λ z. z ++ good_lines z (line ∷ [])) r.good
      ∙ ap (λ z. before ++ z) (good-line before line [] found h ∙ ap (λ z. found ∷ z) (good-nil (before ++ found ∷ [])));
  all = omega (arith, ap length cuts, length_push (cut r.whole) line, length_push before found, r.all);
  ended = until_last-push is_end done 10 ∙ sym (length_push done 10);
  no_end = refl;
}
  where
    cuts : cut (done ++ 10 ∷ []) ≡ cut r.whole ++ line ∷ []
    cuts = reached_cut done before line (10 ∷ []) r ∙ ap (λ z. cut r.whole ++ z) (cut-line line [] r.no_end ∙ ap (λ z. line ∷ z) cut-nil)

all_good : (bytes : List ℕ) (lines : List Line) → script bytes ≡ lines → length (cut bytes) ≡ length lines → IsGood bytes lines
unfolding bad_line
all_good bytes lines e h = record { lines = e; number = ap (λ z. cond z None (Some (length (script bytes) + 1))) (eq-eqb (length (script bytes)) (length (cut bytes)) (ap length e ∙ sym h)) }

-- the whole lines of the bytes so far
pub reached_whole : (done : List ℕ) (before : List Line) (line : List ℕ) → Reached done before line → IsGood (whole_lines done) before
unfolding whole_lines
reached_whole done before line r = subst (λ z. IsGood z before) (sym whole) (all_good r.whole before r.good r.all)
  where
    whole : take (until_last is_end done) done ≡ r.whole
    whole =
        ap (λ z. take (until_last is_end z) z) r.parts
        ∙ ap (λ n. take n (r.whole ++ line)) (until_last-none r.whole line r.no_end ∙ r.ended)
        ∙ take-append_seam r.whole line

-- what follows them
pub reached_unfinished : (done : List ℕ) (before : List Line) (line : List ℕ) → Reached done before line → unfinished_line done ≡ line
unfolding unfinished_line
reached_unfinished done before line r =
    ap (λ z. drop (until_last is_end z) z) r.parts
    ∙ ap (λ n. drop n (r.whole ++ line)) (until_last-none r.whole line r.no_end ∙ r.ended)
    ∙ drop-append_seam r.whole line

-- the input ends behind an LF, or before its first byte
pub reached_done : (done : List ℕ) (before : List Line) → Reached done before [] → IsGood done before
reached_done done before r = subst (λ z. IsGood z before) (sym (r.parts ∙ append-nil r.whole)) (all_good r.whole before r.good r.all)

-- the input ends in a good line
pub reached_last_line : (done : List ℕ) (before : List Line) (line : List ℕ) (found : Line) → Reached done before line → line ≢ [] → allowed before (line_of line) ≡ Some found → IsGood done (before ++ found ∷ [])
unfolding script
reached_last_line done before [] found r ne h = absurd (ne refl)
reached_last_line done before (b ∷ line) found r ne h = all_good done (before ++ found ∷ []) good (omega (arith, ap length cuts, length_push (cut r.whole) (b ∷ line), length_push before found, r.all))
  where
    cuts : cut done ≡ cut r.whole ++ (b ∷ line) ∷ []
    cuts = ap cut r.parts ∙ r.closed (b ∷ line) ∙ ap (λ z. cut r.whole ++ z) (cut-last b line r.no_end)

    good : script done ≡ before ++ found ∷ []
    good = ap (good_lines []) cuts
        ∙ good-append [] (cut r.whole) ((b ∷ line) ∷ []) (ap length r.good ∙ sym r.all)
        ∙ ap (λ z. z ++ good_lines z ((b ∷ line) ∷ [])) r.good
        ∙ ap (λ z. before ++ z) (good-line before (b ∷ line) [] found h ∙ ap (λ z. found ∷ z) (good-nil (before ++ found ∷ [])))
