-- A piece is told by its words, whatever lies behind it.
use Rattle.std.proofs.Common.{◌≡◌, ◌≢◌, ℕ, zero, suc, ◌+◌, ◌-◌, ◌*◌, ◌/◌, ◌%◌, ◌^◌, ◌<◌, List, [], ◌∷◌, ◌++◌, length, take, drop, get_or, length-append, append_assoc, refl, sym, ap, ◌∙◌, subst, arith}
use Rattle.std.proofs.Common.{true, eq-eqb, eqb-true, ◌==◌, ◌&&◌}
use Rattle.std.specs.Prelude.{nat_lt}
use Rattle.std.proofs.lemmas.Bool.{and_from, and_parts, lt-ltb, ltb-true}
use Rattle.std.specs.List.{flat_map}
use Rattle.std.proofs.lemmas.List.{get_or_append_left, take_at, append_cancel_left}
use Rattle.example_layout.specs.Image.{eight_bytes}
use Rattle.example_layout.specs.declared.bad.Bad.{Bad}
use Rattle.example_layout.specs.declared.bad.Bad.TheVariants.{Empty, Long, End}
use Rattle.example_layout.specs.Layout.{ended, packed, row, row_length, AreBytes, AreWords}
use Rattle.example_layout.specs.Pieces.{laid, words_of, AreFine, IsBad, IsFine, MayBe, Piece, Hole, Live, Dead, Refused}
use Rattle.example_layout.specs.Laws.{bytes_of, is_row, same, HasRowEnds, RowsAreTested}
use Rattle.example_layout.proofs.Bytes.{below_take, bytes_are, end, ended_fits, ended_long, ended_same, last_some, packed_fits, packed_long, unpacked}

pub row_long : (mark : ℕ) (bytes : List ℕ) → length (row mark bytes) ≡ length bytes / 8 + 2
row_long mark bytes = omega (arith, packed_long (length bytes / 8 + 1) (ended bytes))

row_fits : (mark : ℕ) (bytes : List ℕ) → mark < 2 → MayBe bytes → AreWords (row mark bytes)
row_fits mark bytes small may zero = omega (arith, small, may.1)
row_fits mark bytes small may (suc k) = packed_fits (length bytes / 8 + 1) (ended bytes) (ended_fits bytes may.2) k

-- the bytes of a record's words are its bytes and their end
pub row_bytes : (bytes : List ℕ) → AreBytes bytes → flat_map eight_bytes (packed (length bytes / 8 + 1) (ended bytes)) ≡ ended bytes
row_bytes bytes are = unpacked (length bytes / 8 + 1) (ended bytes) (ended_long bytes) (ended_fits bytes are)

pub row_last : (mark : ℕ) (bytes : List ℕ) → get_or (row mark bytes) (length (row mark bytes) - 1) 0 ≢ 0
row_last mark bytes none =
    let place : length (row mark bytes) - 1 ≡ suc (length bytes / 8) = omega (arith, row_long mark bytes) in
    last_some bytes (sym (ap (λ (n : ℕ). get_or (row mark bytes) n 0) place) ∙ none)

-- two records of the same words are one
same_rows : (m n : ℕ) (one two : List ℕ) → m < 2 → n < 2 → AreBytes one → AreBytes two → row m one ≡ row n two → (m ≡ n) × (one ≡ two)
same_rows m n one two small little are be same =
    let heads = ap (λ (l : List ℕ). get_or l 0 0) same in
    let long : length one ≡ length two = omega (arith, heads, small, little) in
    let tails = ap (λ (l : List ℕ). flat_map eight_bytes (drop 1 l)) same in
    (omega (arith, heads, small, little), ended_same one two long (sym (row_bytes one are) ∙ tails ∙ row_bytes two be))

-- the first word of a piece
abbrev pub head : List ℕ → ℕ
head words = get_or words 0 0

pub piece_some : (p : Piece) → IsFine p → 0 < length (words_of p)
piece_some Hole fine = omega arith
piece_some (Live bytes) fine = omega (arith, row_long 0 bytes)
piece_some (Dead bytes) fine = omega (arith, row_long 1 bytes)
piece_some (Refused words) fine = omega (arith, fine.long)

pub head_of : (p : Piece) (x : List ℕ) → IsFine p → head (words_of p ++ x) ≡ head (words_of p)
head_of p x fine = get_or_append_left (words_of p) x 0 0 (piece_some p fine)

pub piece_fits : (p : Piece) → IsFine p → AreWords (words_of p)
piece_fits Hole fine zero = omega arith
piece_fits Hole fine (suc k) = omega arith
piece_fits (Live bytes) fine k = row_fits 0 bytes (omega arith) fine k
piece_fits (Dead bytes) fine k = row_fits 1 bytes (omega arith) fine k
piece_fits (Refused words) fine k = fine.numbers k

-- its length is told by its first word
abbrev span : ℕ → ℕ
span zero = 1
span (suc n) = row_length (suc n)

spans : (n : ℕ) → 1 < n → span n ≡ row_length n
spans zero some = absurd (omega (arith, some))
spans (suc n) some = refl

piece_span : (p : Piece) → IsFine p → length (words_of p) ≡ span (head (words_of p))
piece_span Hole fine = refl
piece_span (Live bytes) fine = omega (arith, row_long 0 bytes, spans (2 * length bytes + 0) (omega (arith, fine.0)))
piece_span (Dead bytes) fine = omega (arith, row_long 1 bytes, spans (2 * length bytes + 1) (omega (arith, fine.0)))
piece_span (Refused words) fine = omega (arith, fine.long, spans (head words) (omega (arith, fine.some)))

-- so two pieces with which words begin have the same words
same_pieces : (p q : Piece) (x y : List ℕ) → IsFine p → IsFine q → words_of p ++ x ≡ words_of q ++ y → words_of p ≡ words_of q
same_pieces p q x y fine good same =
    let heads : head (words_of p) ≡ head (words_of q) = sym (head_of p x fine) ∙ ap head same ∙ head_of q y good in
    let long : length (words_of p) ≡ length (words_of q) = piece_span p fine ∙ ap span heads ∙ sym (piece_span q good) in
    sym (take_at (words_of p) x (length (words_of p)) refl) ∙ ap (take (length (words_of p))) same ∙ take_at (words_of q) y (length (words_of p)) (sym long)

same_from_words : (p q : Piece) → IsFine p → IsFine q → words_of p ≡ words_of q → p ≡ q
same_from_words Hole Hole fine good same = refl
same_from_words Hole (Live b) fine good same = let e = ap head same in absurd (omega (arith, e, good.0))
same_from_words Hole (Dead b) fine good same = let e = ap head same in absurd (omega (arith, e, good.0))
same_from_words Hole (Refused w) fine good same = let e = ap head same in absurd (omega (arith, e, good.some))
same_from_words (Live a) Hole fine good same = let e = ap head same in absurd (omega (arith, e, fine.0))
same_from_words (Live a) (Live b) fine good same = ap (λ (l : List ℕ). Live l) (same_rows 0 0 a b (omega arith) (omega arith) fine.2 good.2 same).1
same_from_words (Live a) (Dead b) fine good same = absurd (omega (arith, (same_rows 0 1 a b (omega arith) (omega arith) fine.2 good.2 same).0))
same_from_words (Live a) (Refused w) fine good same = absurd (row_last 0 a (ap (λ (l : List ℕ). get_or l (length l - 1) 0) same ∙ good.last))
same_from_words (Dead a) Hole fine good same = let e = ap head same in absurd (omega (arith, e, fine.0))
same_from_words (Dead a) (Live b) fine good same = absurd (omega (arith, (same_rows 1 0 a b (omega arith) (omega arith) fine.2 good.2 same).0))
same_from_words (Dead a) (Dead b) fine good same = ap (λ (l : List ℕ). Dead l) (same_rows 1 1 a b (omega arith) (omega arith) fine.2 good.2 same).1
same_from_words (Dead a) (Refused w) fine good same = absurd (row_last 1 a (ap (λ (l : List ℕ). get_or l (length l - 1) 0) same ∙ good.last))
same_from_words (Refused v) Hole fine good same = let e = ap head same in absurd (omega (arith, e, fine.some))
same_from_words (Refused v) (Live b) fine good same = absurd (row_last 0 b (ap (λ (l : List ℕ). get_or l (length l - 1) 0) (sym same) ∙ fine.last))
same_from_words (Refused v) (Dead b) fine good same = absurd (row_last 1 b (ap (λ (l : List ℕ). get_or l (length l - 1) 0) (sym same) ∙ fine.last))
same_from_words (Refused v) (Refused w) fine good same = ap (λ (l : List ℕ). Refused l) same

pub same_piece : (p q : Piece) (x y : List ℕ) → IsFine p → IsFine q → words_of p ++ x ≡ words_of q ++ y → p ≡ q
same_piece p q x y fine good same = same_from_words p q fine good (same_pieces p q x y fine good same)

-- behind a header that no piece has, with too few words, or with another end, no piece begins
no_row : (mark : ℕ) (bytes x : List ℕ) → mark < 2 → MayBe bytes → (let header = head (row mark bytes ++ x) in (b : List ℕ) → length b ≡ header / 2 → flat_map eight_bytes (take (row_length header - 1) (drop 1 (row mark bytes ++ x))) ≢ ended b) → ⊥
no_row mark bytes x small may none =
    let n = length bytes / 8 + 1 in
    let count : row_length (2 * length bytes + mark) - 1 ≡ n = omega (arith, small) in
    let body : take (row_length (2 * length bytes + mark) - 1) (packed n (ended bytes) ++ x) ≡ packed n (ended bytes) = take_at (packed n (ended bytes)) x (row_length (2 * length bytes + mark) - 1) (packed_long n (ended bytes) ∙ sym count) in
    none bytes (omega (arith, small)) (ap (flat_map eight_bytes) body ∙ row_bytes bytes may.2)

pub none_begins : (bad : Bad) (p : Piece) (x : List ℕ) → IsFine p → IsBad bad (words_of p ++ x) → ⊥
none_begins Empty Hole x fine is = omega (arith, is)
none_begins Empty (Live b) x fine is = omega (arith, is)
none_begins Empty (Dead b) x fine is = omega (arith, is, fine.0)
none_begins Empty (Refused w) x fine is = omega (arith, head_of (Refused w) x fine, is, fine.some)
none_begins Long Hole x fine is = omega (arith, is.0)
none_begins Long (Live b) x fine is = omega (arith, is.1, length-append (row 0 b) x, row_long 0 b)
none_begins Long (Dead b) x fine is = omega (arith, is.1, length-append (row 1 b) x, row_long 1 b)
none_begins Long (Refused w) x fine is = let e = ap row_length (head_of (Refused w) x fine) in omega (arith, is.1, length-append w x, fine.long, e)
none_begins End Hole x fine is = omega (arith, is.0)
none_begins End (Live b) x fine is = no_row 0 b x (omega arith) fine is.3
none_begins End (Dead b) x fine is = no_row 1 b x (omega arith) fine is.3
none_begins End (Refused w) x fine is =
    let e = ap row_length (head_of (Refused w) x fine) in
    let there : get_or (w ++ x) (row_length (head (w ++ x)) - 1) 0 ≡ get_or w (length w - 1) 0 = ap (λ (n : ℕ). get_or (w ++ x) (n - 1) 0) (e ∙ sym fine.long) ∙ get_or_append_left w x 0 (length w - 1) (omega (arith, fine.long)) in
    is.2 (there ∙ fine.last)

-- two rows of pieces of the same words are one
pub same_rows_of : (ps qs : List Piece) → AreFine ps → AreFine qs → laid ps ≡ laid qs → ps ≡ qs
same_rows_of [] [] fine good same = refl
same_rows_of [] (q ∷ qs) fine good same = let e = ap length same in absurd (omega (arith, e, length-append (words_of q) (laid qs), piece_some q good.0))
same_rows_of (p ∷ ps) [] fine good same = let e = ap length same in absurd (omega (arith, e, length-append (words_of p) (laid ps), piece_some p fine.0))
same_rows_of (p ∷ ps) (q ∷ qs) fine good same =
    let one = same_piece p q (laid ps) (laid qs) fine.0 good.0 same in
    let rest : laid ps ≡ laid qs = append_cancel_left (words_of p) (laid ps) (laid qs) (same ∙ ap (λ (r : Piece). words_of r ++ laid qs) (sym one)) in
    ap (λ (r : Piece). r ∷ ps) one ∙ ap (λ (l : List Piece). q ∷ l) (same_rows_of ps qs fine.1 good.1 rest)

-- in such words no place behind such pieces is bad
pub none_is_bad : (bad : Bad) (ps qs : List Piece) (x : List ℕ) → AreFine ps → AreFine qs → laid ps ≡ laid qs ++ x → IsBad bad x → ⊥
none_is_bad bad [] [] x fine good same is = none_in bad (subst (IsBad bad) (sym same) is)
  where
    none_in : (bad : Bad) → IsBad bad [] → ⊥
    none_in Empty is = omega (arith, is)
    none_in Long is = omega (arith, is.0)
    none_in End is = omega (arith, is.0)
none_is_bad bad (p ∷ ps) [] x fine good same is = none_begins bad p (laid ps) fine.0 (subst (IsBad bad) (sym same) is)
none_is_bad bad [] (q ∷ qs) x fine good same is =
    let e = ap length same in absurd (omega (arith, e, length-append (words_of q ++ laid qs) x, length-append (words_of q) (laid qs), piece_some q good.0))
none_is_bad bad (p ∷ ps) (q ∷ qs) x fine good same is =
    let all = same ∙ append_assoc (words_of q) (laid qs) x in
    let one = same_piece p q (laid ps) (laid qs ++ x) fine.0 good.0 all in
    none_is_bad bad ps qs x fine.1 good.1 (append_cancel_left (words_of p) (laid ps) (laid qs ++ x) (all ∙ ap (λ (r : Piece). words_of r ++ (laid qs ++ x)) (sym one))) is

pub laid_fits : (ps : List Piece) → AreFine ps → AreWords (laid ps)
laid_fits [] fine k = omega arith
laid_fits (p ∷ ps) fine k = joined_fits (words_of p) (laid ps) (piece_fits p fine.0) (laid_fits ps fine.1) k
  where
    joined_fits : (xs ys : List ℕ) → AreWords xs → AreWords ys → AreWords (xs ++ ys)
    joined_fits [] ys one two k = two k
    joined_fits (x ∷ xs) ys one two zero = one 0
    joined_fits (x ∷ xs) ys one two (suc k) = joined_fits xs ys (λ m. one (suc m)) two k

-- what is known of a record's words
pub row_ends : (mark : ℕ) (bytes : List ℕ) → mark < 2 → MayBe bytes → HasRowEnds (row mark bytes)
row_ends mark bytes small may = record {
  first = omega (arith, may.0);
  last = row_last mark bytes;
  long = omega (arith, row_long mark bytes, small);
  numbers = row_fits mark bytes small may;
}

pub same_live : (one two : List ℕ) → MayBe one → MayBe two → row 0 one ≡ row 0 two → one ≡ two
same_live one two may can same = (same_rows 0 0 one two (omega arith) (omega arith) may.2 can.2 same).1

same_is : (xs ys : List ℕ) → same xs ys ≡ true → xs ≡ ys
same_is [] [] e = refl
same_is [] (y ∷ ys) e = absurd (cc e)
same_is (x ∷ xs) [] e = absurd (cc e)
same_is (x ∷ xs) (y ∷ ys) e =
    let both = and_parts (x == y) (same xs ys) e in
    ap (λ (n : ℕ). n ∷ xs) (eqb-true x y both.0) ∙ ap (λ (l : List ℕ). y ∷ l) (same_is xs ys both.1)

same_self : (xs : List ℕ) → same xs xs ≡ true
same_self [] = refl
same_self (x ∷ xs) = and_from (x == x) (same xs xs) (eq-eqb x x refl) (same_self xs)

row_told : (words : List ℕ) → is_row words ≡ true → (bytes : List ℕ) × MayBe bytes × (words ≡ row 0 bytes)
row_told words is =
    let bytes = bytes_of words in
    let parts = and_parts (nat_lt 0 (length bytes) && nat_lt (length bytes) (2 ^ 63)) (same words (row 0 bytes)) is in
    let ends = and_parts (nat_lt 0 (length bytes)) (nat_lt (length bytes) (2 ^ 63)) parts.0 in
    (bytes, (ltb-true 0 (length bytes) ends.0, ltb-true (length bytes) (2 ^ 63) ends.1, below_take (2 ^ 8) (get_or words 0 0 / 2) (flat_map eight_bytes (drop 1 words)) (omega arith) (bytes_are (drop 1 words))), same_is words (row 0 bytes) parts.1)

row_tested : (bytes : List ℕ) → MayBe bytes → is_row (row 0 bytes) ≡ true
row_tested bytes may =
    let half : (2 * length bytes + 0) / 2 ≡ length bytes = omega arith in
    let own : bytes_of (row 0 bytes) ≡ bytes = ap (take ((2 * length bytes + 0) / 2)) (row_bytes bytes may.2) ∙ take_at bytes (take (8 - length bytes % 8) end) ((2 * length bytes + 0) / 2) (sym half) in
    subst (λ (l : List ℕ). ((nat_lt 0 (length l) && nat_lt (length l) (2 ^ 63)) && same (row 0 bytes) (row 0 l)) ≡ true) (sym own)
    (and_from (nat_lt 0 (length bytes) && nat_lt (length bytes) (2 ^ 63)) (same (row 0 bytes) (row 0 bytes)) (and_from (nat_lt 0 (length bytes)) (nat_lt (length bytes) (2 ^ 63)) (lt-ltb 0 (length bytes) may.0) (lt-ltb (length bytes) (2 ^ 63) may.1)) (same_self (row 0 bytes)))

pub rows_tested : RowsAreTested
rows_tested = record { told = row_told; are = row_tested }
