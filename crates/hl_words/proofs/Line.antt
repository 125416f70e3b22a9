-- The table's words without the eight unused ones before the cells.
use Rattle.std.proofs.Common.{◌≡◌, ℕ, ◌+◌, List, length, set, drop, ap, sym, ◌∙◌, arith}
use Rattle.std.specs.Prelude.{slice_index}
use Rattle.std.proofs.lemmas.List.{length-drop, get_or-drop, drop-set-add}

pub line_wide : (cells : ℕ) (words : List ℕ) → length words ≡ cells + 27 → length (drop 8 words) ≡ cells + 19
line_wide cells words width = omega (arith, length-drop 8 words, width)

-- what lies at a place behind them
pub line_at : (words : List ℕ) (i c : ℕ) → i ≡ 8 + c → slice_index words i ≡ slice_index (drop 8 words) c
line_at words i c place = ap (slice_index words) place ∙ sym (get_or-drop 8 words c 0)

-- a store there
pub line_set : (words : List ℕ) (i c v : ℕ) → i ≡ 8 + c → drop 8 (set words i v) ≡ set (drop 8 words) c v
line_set words i c v place = ap (λ (k : ℕ). drop 8 (set words k v)) place ∙ drop-set-add 8 words c v
