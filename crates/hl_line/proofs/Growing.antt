-- Text that is written in parts.
use Rattle.std.proofs.Common.{◌≡◌, ℕ, ◌-◌, Option, List, [], ◌++◌, length, take, drop, take-append-drop, append_assoc, arith, sym, ap, ◌∙◌, refl, length-append}
use Rattle.std.specs.Io.KnownBytes.{Appends}
use Rattle.std.proofs.KnownBytes.{Appends-nil, Appends-trans}
use Rattle.std.proofs.lemmas.List.{take_all, length-drop}
use Rattle.hl_line.specs.Streams.{BreaksOff}

-- known bytes grew by a beginning of the text, and `rest` is to come
pub record Grows (old new : Option (List ℕ)) (text rest : List ℕ) : Type 0 where
  pub written : List ℕ
  pub both : written ++ rest ≡ text
  pub grown : Appends old new written

-- nothing is written at first
pub Grows-start : (old : Option (List ℕ)) (text : List ℕ) → Grows old old text text
Grows-start old text = record { written = []; both = refl; grown = Appends-nil old }

-- a part that is written is no longer to come
pub Grows-part : (old mid new : Option (List ℕ)) (text rest part later : List ℕ) → Grows old mid text rest → Appends mid new part → part ++ later ≡ rest → Grows old new text later
Grows-part old mid new text rest part later g p joined =
    record {
      written = g.written ++ part;
      both = append_assoc g.written part later ∙ ap (λ xs. g.written ++ xs) joined ∙ g.both;
      grown = Appends-trans old mid new g.written part g.grown p;
    }

-- a write that took n bytes leaves the others
pub Grows-taken : (old mid new : Option (List ℕ)) (text rest : List ℕ) (n : ℕ) → Grows old mid text rest → Appends mid new (take n rest) → Grows old new text (take (length rest - n) (drop n rest))
Grows-taken old mid new text rest n g p =
    let others : take (length rest - n) (drop n rest) ≡ drop n rest = take_all (length rest - n) (drop n rest) (omega (arith, length-drop n rest)) in
    rw others (Grows-part old mid new text rest (take n rest) (drop n rest) g p (take-append-drop n rest))

-- a text breaks off where one of its parts does
pub BreaksOff-part : (old mid new : Option (List ℕ)) (text rest part later : List ℕ) → Grows old mid text rest → part ++ later ≡ rest → BreaksOff mid new part → BreaksOff old new text
BreaksOff-part old mid new text rest part later g joined cut =
    record {
      written = g.written ++ cut.written;
      missing = cut.missing ++ later;
      is_missing = omega (arith, length-append cut.missing later, cut.is_missing);
      both =
          append_assoc g.written cut.written (cut.missing ++ later)
          ∙ ap (λ xs. g.written ++ xs) (sym (append_assoc cut.written cut.missing later) ∙ ap (λ xs. xs ++ later) cut.both ∙ joined)
          ∙ g.both;
      grown = Appends-trans old mid new g.written cut.written g.grown cut.grown;
    }
