-- What a failed read and a failed write leave: the first all of the text of the whole lines, the second less.
use Rattle.std.proofs.Common.{◌≡◌, ◌<◌, ◌⊎◌, inl, inr, ℕ, ◌+◌, Bool, List, [], ◌∷◌, ◌++◌, length, refl, sym, ap, ◌∙◌, subst, append-nil, length-append, arith}
use Rattle.std.proofs.lemmas.List.{take-append-drop}
use Rattle.std.specs.Prelude.{Some}
use Rattle.hl_model.specs.Lists.{until_last}
use Rattle.hl_script.specs.Cut.{whole_lines, unfinished_line}
use Rattle.hl_script.specs.Interpreter.{is_end}
use Rattle.hl_script.specs.Outcomes.{ReadToEnd, WroteAll, WroteWholeLines, WroteFront, FailedWrite}
use Rattle.hl_script.specs.Text.{text}

-- all of a text was written
all_length : (has : ℕ → Bool) (before after bytes : List ℕ) → WroteAll has (Some before) (Some after) bytes → length after ≡ length before + length (text has bytes)
all_length has before after bytes w = ap length w.wrote ∙ length-append before (text has bytes)

-- or less
front_length : (has : ℕ → Bool) (before after bytes : List ℕ) → WroteFront has (Some before) (Some after) bytes → length after < length before + length (text has bytes)
front_length has before after bytes f =
    omega (arith, ap length f.grown, length-append before f.written, ap length f.both, length-append f.written f.missing, f.is_missing)

-- bytes that are whole lines
lines_alone : (bytes : List ℕ) → unfinished_line bytes ≡ [] → whole_lines bytes ≡ bytes
unfolding whole_lines unfinished_line
lines_alone bytes none =
    sym (append-nil (whole_lines bytes)) ∙ ap (λ z. whole_lines bytes ++ z) (sym none) ∙ take-append-drop (until_last is_end bytes) bytes

not_both : (has : ℕ → Bool) (before after bytes : List ℕ) → WroteAll has (Some before) (Some after) bytes → WroteFront has (Some before) (Some after) bytes → ⊥
not_both has before after bytes w f = omega (arith, all_length has before after bytes w, front_length has before after bytes f)

-- where less than the text was written and all of the text of its whole lines, the input has a line more
goes_on : (has : ℕ → Bool) (before after input rest : List ℕ) → WroteAll has (Some before) (Some after) (whole_lines input) → WroteFront has (Some before) (Some after) input → unfinished_line input ≡ rest → 0 < length rest
goes_on has before after input [] w f e = absurd (not_both has before after input (subst (WroteAll has (Some before) (Some after)) (lines_alone input e) w) f)
goes_on has before after input (b ∷ rest) w f e = omega arith

pub both_at_end : (has : ℕ → Bool) (reads : ℕ) (given left before after input : List ℕ) → WroteWholeLines has (Some before) (Some after) input → FailedWrite has reads (Some given) (Some left) (Some before) (Some after) input → ReadToEnd reads (Some given) (Some left) input × (0 < length (unfinished_line input))
both_at_end has reads given left before after input w f = by_place f.place
  where
    by_place : WroteFront has (Some before) (Some after) (whole_lines input) ⊎ (80 < length (unfinished_line input)) ⊎ ReadToEnd reads (Some given) (Some left) input → ReadToEnd reads (Some given) (Some left) input × (0 < length (unfinished_line input))
    by_place (inl missing) = absurd (not_both has before after (whole_lines input) w.whole missing)
    by_place (inr (inl long)) = absurd (omega (arith, long, w.unfinished))
    by_place (inr (inr end)) = (end, goes_on has before after input (unfinished_line input) w.whole f.front.given refl)
