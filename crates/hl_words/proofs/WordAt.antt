-- What the words at their end read as.
use Rattle.std.proofs.Common.{◌≡◌, ℕ, zero, suc, ◌+◌, List, [], ◌∷◌, drop, sym, ◌∙◌}
use Rattle.std.specs.Prelude.{slice_index}
use mathlib.Core.Option.{some, some-injective, some-ne-none}
use lib.ListN.{get_elem?}
use Rattle.hl_words.proofs.Line.{line_at}

-- a word that is there is what its index reads
read_at : (words : List ℕ) (i x : ℕ) → get_elem? words i ≡ some x → x ≡ slice_index words i
read_at [] i x e = absurd (some-ne-none x (sym e))
read_at (w ∷ words) zero x e = sym (some-injective w x e)
read_at (w ∷ words) (suc i) x e = read_at words i x e

-- so it is behind the unused ones
pub read_behind : (words : List ℕ) (i c x : ℕ) → i ≡ 8 + c → get_elem? words i ≡ some x → x ≡ slice_index (drop 8 words) c
read_behind words i c x place e = read_at words i x e ∙ line_at words i c place
