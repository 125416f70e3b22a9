-- Stretches of a log's words, joined.
use Rattle.std.proofs.Common.{◌≡◌, ◌≢◌, ℕ, suc, ◌+◌, ◌-◌, ◌*◌, ◌/◌, ◌%◌, ◌^◌, ◌<◌, ◌≤◌, List, [], ◌∷◌, ◌++◌, length, take, drop, get_or, map, length-append, length-drop, take-append-drop, append_assoc, refl, sym, ap, ◌∙◌, subst, arith}
use Rattle.std.proofs.Common.{Bool, true, false, eq-eqb, eqb-true, if◌then◌else◌, Vec, Global}
use Rattle.std.specs.Prelude.{Option, Some, None, MatchOption, ◌==◌, option_map, option_to_list}
use Rattle.std.specs.List.{flat_map}
use Rattle.std.proofs.lemmas.List.{append-nil, drop_all, drop-drop, get_or-take, length-take-le, take_rest}
use Rattle.example_layout.specs.declared.bad.Bad.{Bad}
use Rattle.example_layout.specs.declared.bad.Trouble.{Trouble}
use Rattle.example_layout.specs.declared.bad.Trouble.TheVariants.{OutOfMemory, Broken}
use Rattle.example_layout.specs.declared.entry.Entry.{Entry}
use Rattle.example_layout.specs.Image.{eight_bytes}
use Rattle.example_layout.specs.Layout.{ended, packed, row, row_length, AreBytes, AreWords}
use Rattle.example_layout.specs.Pieces.{laid, live_at, live_from, rows_of, words_of, AreFine, IsBad, IsFine, IsGathered, IsPieceAt, IsStopped, IsTroubleAt, MayBe, Piece, Hole, Live, Dead, Refused, Yields}
use Rattle.example_layout.proofs.Bytes.{below_take, bytes_are, front_are, repacked}
use Rattle.example_layout.proofs.Rows.{none_begins, piece_some, same_piece}

pub fine_more : (ps qs : List Piece) → AreFine ps → AreFine qs → AreFine (ps ++ qs)
fine_more [] qs one two = two
fine_more (p ∷ ps) qs one two = (one.0, fine_more ps qs one.1 two)

pub laid_more : (ps qs : List Piece) → laid (ps ++ qs) ≡ laid ps ++ laid qs
laid_more [] qs = refl
laid_more (p ∷ ps) qs = ap (λ (l : List ℕ). words_of p ++ l) (laid_more ps qs) ∙ sym (append_assoc (words_of p) (laid ps) (laid qs))

pub live_more : (a : ℕ) (ps qs : List Piece) → live_from a (ps ++ qs) ≡ live_from a ps ++ live_from (a + length (laid ps)) qs
live_more a [] qs = ap (λ (n : ℕ). live_from n qs) (omega arith)
live_more a (p ∷ ps) qs =
    let b = a + length (words_of p) in
    let place : b + length (laid ps) ≡ a + length (words_of p ++ laid ps) = omega (arith, length-append (words_of p) (laid ps)) in
    ap (λ (l : List (ℕ × List ℕ)). live_at a p ++ l) (live_more b ps qs ∙ ap (λ (n : ℕ). live_from b ps ++ live_from n qs) place)
    ∙ sym (append_assoc (live_at a p) (live_from b ps) (live_from (a + length (words_of p ++ laid ps)) qs))

-- nothing yet
pub yields_none : (base : ℕ) (words : List ℕ) (at : ℕ) → Yields base words at at []
yields_none base words at = record { pieces = []; fine = tt; there = refl; ends = omega arith; are = refl }

-- two stretches
pub yields_more : (base : ℕ) (words : List ℕ) (x y z : ℕ) (one two : List (ℕ × List ℕ)) → Yields base words x y one → Yields base words y z two → Yields base words x z (one ++ two)
yields_more base words x y z one two first second = record {
  pieces = first.pieces ++ second.pieces;
  fine = fine_more first.pieces second.pieces first.fine second.fine;
  there = first.there ∙ ap (λ (l : List ℕ). laid first.pieces ++ l) second.there ∙ sym (append_assoc (laid first.pieces) (laid second.pieces) (drop z words)) ∙ ap (λ (l : List ℕ). l ++ drop z words) (sym (laid_more first.pieces second.pieces));
  ends = omega (arith, first.ends, second.ends, length-append (laid first.pieces) (laid second.pieces), ap length (laid_more first.pieces second.pieces));
  are = let place : base + y ≡ base + x + length (laid first.pieces) = omega (arith, first.ends) in
      ap (λ (l : List (ℕ × List ℕ)). l ++ two) first.are ∙ ap (λ (l : List (ℕ × List ℕ)). live_from (base + x) first.pieces ++ l) (second.are ∙ ap (λ (n : ℕ). live_from n second.pieces) place) ∙ sym (live_more (base + x) first.pieces second.pieces);
}

-- one piece
pub yields_one : (base : ℕ) (words : List ℕ) (at count to : ℕ) (live : Option (List ℕ)) → IsPieceAt (drop at words) count live → to ≡ at + count → Yields base words at to (map (λ bytes. (base + at, bytes)) (option_to_list live))
yields_one base words at count to live is ends = record {
  pieces = is.piece ∷ [];
  fine = (is.fine, tt);
  there = is.there ∙ ap (λ (l : List ℕ). words_of is.piece ++ l) (drop-drop count at words ∙ ap (λ (n : ℕ). drop n words) (sym ends)) ∙ ap (λ (l : List ℕ). l ++ drop to words) (sym (append-nil (words_of is.piece)));
  ends = omega (arith, ends, is.long, ap length (append-nil (words_of is.piece)));
  are = sym (is.are (base + at)) ∙ sym (append-nil (live_at (base + at) is.piece));
}

-- it lies within
pub piece_within : (rest : List ℕ) (count : ℕ) (live : Option (List ℕ)) → IsPieceAt rest count live → count ≤ length rest
piece_within rest count live is = omega (arith, ap length is.there, length-append (words_of is.piece) (drop count rest), is.long)

-- A record's words are there
row_there : (mark : ℕ) (bytes rest : List ℕ) → get_or rest 0 0 ≡ 2 * length bytes + mark → length bytes / 8 + 2 ≤ length rest → AreWords rest → flat_map eight_bytes (take (length bytes / 8 + 1) (drop 1 rest)) ≡ ended bytes → row mark bytes ≡ take (length bytes / 8 + 2) rest
row_there mark bytes [] header long fits same = absurd (omega (arith, long))
row_there mark bytes (w ∷ rest) header long fits same =
    let n = length bytes / 8 + 1 in
    let body = take n rest in
    let words : length body ≡ n = length-take-le n rest (omega (arith, long)) in
    let all : suc n ≡ length bytes / 8 + 2 = omega arith in
    let is : packed n (ended bytes) ≡ body = ap (packed n) (sym same) ∙ ap (λ (m : ℕ). packed m (flat_map eight_bytes body)) (sym words) ∙ repacked body (below_take (2 ^ 64) n rest (omega arith) (λ k. fits (suc k))) in
    ap (λ (l : List ℕ). (2 * length bytes + mark) ∷ l) is ∙ ap (λ (x : ℕ). x ∷ body) (sym header) ∙ ap (λ (m : ℕ). take m (w ∷ rest)) all

-- a record, live or dead, whose words are read well
module _ (bytes rest : List ℕ) (h : ℕ) (header : h ≡ get_or rest 0 0) (some : h ≢ 0) (more : h ≢ 1) (count : length bytes ≡ h / 2) (long : h / 16 + 2 ≤ length rest) (fits : AreWords rest)
    (n : ℕ) (n_is : n ≡ h / 16 + 1) (given : flat_map eight_bytes (take n (drop 1 rest)) ≡ ended bytes) where
  same : flat_map eight_bytes (take (h / 16 + 1) (drop 1 rest)) ≡ ended bytes
  same = ap (λ (m : ℕ). flat_map eight_bytes (take m (drop 1 rest))) (sym n_is) ∙ given

  may : MayBe bytes
  may = (omega (arith, count, some, more), omega (arith, count, header, fits 0), front_are bytes (subst AreBytes same (bytes_are (take (h / 16 + 1) (drop 1 rest)))))

  row_is : (mark : ℕ) → h ≡ 2 * length bytes + mark → mark < 2 → row mark bytes ≡ take (h / 16 + 2) rest
  row_is mark is small =
      let words : h / 16 ≡ length bytes / 8 = omega (arith, is, small) in
      row_there mark bytes rest (sym header ∙ is) (omega (arith, words, long)) fits (ap (λ (n : ℕ). flat_map eight_bytes (take (n + 1) (drop 1 rest))) (sym words) ∙ same) ∙ ap (λ (n : ℕ). take (n + 2) rest) (sym words)

  pub live_piece : h % 2 ≡ 0 → IsPieceAt rest (h / 16 + 2) (Some bytes)
  live_piece even = let is = row_is 0 (omega (arith, even, count)) (omega arith) in record {
    piece = Live bytes;
    fine = may;
    there = sym (take-append-drop (h / 16 + 2) rest) ∙ ap (λ (l : List ℕ). l ++ drop (h / 16 + 2) rest) (sym is);
    long = ap length is ∙ length-take-le (h / 16 + 2) rest long;
    are = λ a. refl;
  }

  pub dead_piece : h % 2 ≢ 0 → IsPieceAt rest (h / 16 + 2) None
  dead_piece odd = let is = row_is 1 (omega (arith, odd, count)) (omega arith) in record {
    piece = Dead bytes;
    fine = may;
    there = sym (take-append-drop (h / 16 + 2) rest) ∙ ap (λ (l : List ℕ). l ++ drop (h / 16 + 2) rest) (sym is);
    long = ap length is ∙ length-take-le (h / 16 + 2) rest long;
    are = λ a. refl;
  }

-- one whose last word is 0
pub refused_piece : (rest : List ℕ) (h : ℕ) → h ≡ get_or rest 0 0 → h ≢ 0 → h ≢ 1 → h / 16 + 2 ≤ length rest → AreWords rest → get_or rest (h / 16 + 2 - 1) 0 ≡ 0 → IsPieceAt rest (h / 16 + 2) None
refused_piece rest h header some more long fits last =
    let n = h / 16 + 2 in
    let words : length (take n rest) ≡ n = length-take-le n rest long in
    let first : get_or (take n rest) 0 0 ≡ h = get_or-take n rest 0 0 (omega arith) ∙ sym header in record {
      piece = Refused (take n rest);
      fine = record {
        some = omega (arith, first, some, more);
        long = words ∙ ap row_length (sym first);
        last = ap (λ (m : ℕ). get_or (take n rest) (m - 1) 0) words ∙ get_or-take n rest (n - 1) 0 (omega arith) ∙ last;
        numbers = below_take (2 ^ 64) n rest (omega arith) fits;
      };
      there = sym (take-append-drop n rest);
      long = words;
      are = λ a. refl;
    }

-- one step on, behind what was passed, in the words as the code has them
pub step_on : (base : ℕ) (words seen : List ℕ) (from at count b : ℕ) (live : Option (List ℕ)) → seen ≡ words → b ≡ base → Yields base words from at [] → IsPieceAt (take (length seen - at) (drop at seen)) count live → Yields base words from (at + count) (map (λ bytes. (b + at, bytes)) (option_to_list live))
step_on base words seen from at count b live same first passed is =
    let here : take (length seen - at) (drop at seen) ≡ drop at words = take_rest seen at ∙ ap (drop at) same in
    let one = yields_one base words at count (at + count) live (subst (λ (l : List ℕ). IsPieceAt l count live) here is) refl in
    subst (λ (n : ℕ). Yields base words from (at + count) (map (λ bytes. (n + at, bytes)) (option_to_list live))) (sym first)
    (yields_more base words from at (at + count) [] (map (λ bytes. (base + at, bytes)) (option_to_list live)) passed one)

-- it stays within them, and goes on
pub step_within : (seen : List ℕ) (at count : ℕ) (live : Option (List ℕ)) → at < length seen → IsPieceAt (take (length seen - at) (drop at seen)) count live → (at + count ≤ length seen) × (0 < count)
step_within seen at count live inside is =
    let long = piece_within (take (length seen - at) (drop at seen)) count live is in
    (omega (arith, long, inside, ap length (take_rest seen at), length-drop at seen), omega (arith, is.long, piece_some is.piece is.fine))

-- a stretch with a live record is some
pub yields_some : (base : ℕ) (words : List ℕ) (from to : ℕ) (x : ℕ × List ℕ) (live : List (ℕ × List ℕ)) → Yields base words from to (x ∷ live) → (from < length words) × (from < to)
yields_some base words from to x live is = by is.pieces is.fine is.are is.there is.ends
  where
    by : (ps : List Piece) → AreFine ps → x ∷ live ≡ live_from (base + from) ps → drop from words ≡ laid ps ++ drop to words → to ≡ from + length (laid ps) → (from < length words) × (from < to)
    by [] fine are there ends = absurd (cc are)
    by (p ∷ ps) fine are there ends =
        let some = piece_some p fine.0 in
        let long = ap length there in (
          omega (arith, some, long, length-drop from words, length-append (words_of p ++ laid ps) (drop to words), length-append (words_of p) (laid ps)),
          omega (arith, some, ends, length-append (words_of p) (laid ps)),
        )

pub gathered_none : (base : ℕ) (words : List ℕ) (at : ℕ) (found : List Entry) → IsGathered base words at at found found
gathered_none base words at found = ([], yields_none base words at, sym (append-nil (rows_of found)))

-- those of a stretch more, in the words as the code has them
pub gathered_more : (base : ℕ) (words : List ℕ) (b : ℕ) (seen : List ℕ) (from at to : ℕ) (old mid new : List Entry) (more : List (ℕ × List ℕ)) → seen ≡ words → b ≡ base → IsGathered base words from at old mid → Yields b seen at to more → rows_of new ≡ rows_of mid ++ more → IsGathered base words from to old new
gathered_more base words b seen from at to old mid new more same first before is now =
    let next = subst (λ (l : List ℕ). Yields base l at to more) same (subst (λ (n : ℕ). Yields n seen at to more) first is) in (
      before.0 ++ more,
      yields_more base words from at to before.0 more before.1 next,
      now ∙ ap (λ (l : List (ℕ × List ℕ)). l ++ more) before.2 ∙ append_assoc (rows_of old) before.0 more,
    )

pub stopped : (base : ℕ) (words : List ℕ) (b : ℕ) (seen : List ℕ) (from at to : ℕ) (old found : List Entry) (trouble : Trouble) → seen ≡ words → b ≡ base → IsGathered base words from at old found → Yields b seen at to [] × (to < length seen) × IsTroubleAt trouble (drop to seen) → IsStopped base words from to old found trouble
stopped base words b seen from at to old found OutOfMemory same first before is = tt
stopped base words b seen from at to old found (Broken why) same first before is = (
  gathered_more base words b seen from at to old found found [] same first before is.0 (sym (append-nil (rows_of found))),
  omega (arith, is.1, ap length same),
  subst (λ (l : List ℕ). IsBad why (drop to l)) same is.2,
)

-- a piece of all words, and what it has
pub whole_row : (words : List ℕ) (count : ℕ) (bytes : List ℕ) → count ≡ length words → IsPieceAt words count (Some bytes) → (words ≡ row 0 bytes) × MayBe bytes
whole_row words count bytes all is = by is.piece is.fine (is.are 0) (is.there ∙ ap (λ (l : List ℕ). words_of is.piece ++ l) (drop_all count words (omega (arith, all))) ∙ append-nil (words_of is.piece))
  where
    by : (p : Piece) → IsFine p → live_at 0 p ≡ (0, bytes) ∷ [] → words ≡ words_of p → (words ≡ row 0 bytes) × MayBe bytes
    by Hole fine are there = absurd (cc are)
    by (Live b) fine are there = let same : b ≡ bytes = ap (second bytes) are in (there ∙ ap (row 0) same, subst MayBe same fine)
      where
        second : List ℕ → List (ℕ × List ℕ) → List ℕ
        second d [] = d
        second d (x ∷ xs) = x.1
    by (Dead b) fine are there = absurd (cc are)
    by (Refused w) fine are there = absurd (cc are)

-- such words are those of no live record
pub no_row : (words : List ℕ) (count : ℕ) (bytes : List ℕ) → MayBe bytes → words ≡ row 0 bytes → IsPieceAt words count None → ⊥
no_row words count bytes may there is = by is.piece is.fine (is.are 0) (same_piece (Live bytes) is.piece [] (drop count words) may is.fine (append-nil (row 0 bytes) ∙ sym there ∙ is.there))
  where
    by : (p : Piece) → IsFine p → live_at 0 p ≡ [] → Live bytes ≡ p → ⊥
    by p fine none same = let e : live_at 0 (Live bytes) ≡ [] = ap (live_at 0) same ∙ none in absurd (cc e)

pub not_row : (words : List ℕ) (count : ℕ) (live : Option (List ℕ)) (bytes : List ℕ) → MayBe bytes → words ≡ row 0 bytes → count ≢ length words → IsPieceAt words count live → ⊥
not_row words count live bytes may there other is =
    let same = same_piece (Live bytes) is.piece [] (drop count words) may is.fine (append-nil (row 0 bytes) ∙ sym there ∙ is.there) in
    other (sym is.long ∙ ap (λ (p : Piece). length (words_of p)) (sym same) ∙ ap length (sym there))

pub bad_row : (words bytes : List ℕ) (bad : Bad) → MayBe bytes → words ≡ row 0 bytes → IsBad bad words → ⊥
bad_row words bytes bad may there is = none_begins bad (Live bytes) [] may (subst (IsBad bad) (there ∙ sym (append-nil (row 0 bytes))) is)

-- what a piece says of all words
pub answer : (words : List ℕ) (count : ℕ) (live : Option (Vec ℕ Global)) (t : Bool) → (count == length words) ≡ t → IsPieceAt words count (option_map (λ b. b.items) live) → MatchOption (if t then live else None) ((bytes : List ℕ) → MayBe bytes → words ≢ row 0 bytes) (λ bytes. (words ≡ row 0 bytes.items) × MayBe bytes.items)
answer words count live false e is = λ bytes may there. not_row words count _ bytes may there (λ same. let t : true ≡ false = sym (eq-eqb count (length words) same) ∙ e in absurd (cc t)) is
answer words count (Some b) true e is = whole_row words count b.items (eqb-true count (length words) e) is
answer words count None true e is = λ bytes may there. no_row words count bytes may there is
