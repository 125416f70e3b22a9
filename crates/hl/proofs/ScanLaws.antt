-- All records of a log are found in its words, one after another.
use Rattle.std.proofs.Common.{◌≡◌, ◌≢◌, ℕ, zero, suc, ◌+◌, ◌-◌, ◌<◌, ◌≤◌, ◌⊎◌, Bool, true, List, [], ◌∷◌, ◌++◌, length, Some, slice_get, get_or, refl, sym, ap, ◌∙◌, subst, inl, inr, ⊎_elim, arith}
use Rattle.std.proofs.lemmas.Bool.{cases_eq, cases_lt}
use Rattle.std.proofs.lemmas.Option.{same_Some, get_or_from_slice_get, slice_get-get_or, slice_get_within}
use Rattle.hl_traces.specs.OneTrace.{ActBy}
use Rattle.hl_traces.specs.Records.{Appended, IsWordOf}
use Rattle.hl_traces.proofs.RecordLaws.{records_are_apart}
use Rattle.hl.specs.Left.{HaveRecords}
use Rattle.hl.specs.Scans.{AreBelow, AreTold, AreWhole, CanScan, HasEnds, IsRefusedAt, IsWholeAt, RecordsAreScanned}
use Rattle.hl.specs.Uses.{whole, AllHaveAppended, AreJust}
use Rattle.hl.proofs.WordsLeft.{words_are_records}

-- an element of a row with one more behind it, and the one
at_end : {X : Type 0} (xs : List X) (n : ℕ) (x y : X) → slice_get (xs ++ x ∷ []) n ≡ Some y → (slice_get xs n ≡ Some y) ⊎ ((n ≡ length xs) × (x ≡ y))
at_end [] zero x y at = inr (refl, same_Some x y at)
at_end [] (suc n) x y at = absurd (cc at)
at_end (z ∷ xs) zero x y at = inl at
at_end (z ∷ xs) (suc n) x y at = ⊎_elim (λ (old : slice_get xs n ≡ Some y). inl old) (λ (new : (n ≡ length xs) × (x ≡ y)). inr (ap suc new.0, new.1)) (at_end xs n x y at)

before_end : {X : Type 0} (xs : List X) (n : ℕ) (x y : X) → slice_get xs n ≡ Some y → slice_get (xs ++ x ∷ []) n ≡ Some y
before_end [] n x y at = absurd (cc at)
before_end (z ∷ xs) zero x y at = at
before_end (z ∷ xs) (suc n) x y at = before_end xs n x y at

last_is : {X : Type 0} (xs : List X) (x : X) → slice_get (xs ++ x ∷ []) (length xs) ≡ Some x
last_is [] x = refl
last_is (z ∷ xs) x = last_is xs x

module _ (ok : List ℕ → Bool) (ends_with : HasEnds ok) (words : List ℕ) (records : ℕ → List Appended) (have : HaveRecords words records)
    (apart : (i k j l : ℕ) (r s : Appended) → slice_get (records i) k ≡ Some r → slice_get (records j) l ≡ Some s → ((i ≡ j) × (k ≡ l)) ⊎ ((r.address + length r.words ≤ s.address) ⊎ (s.address + length s.words ≤ r.address)))
    (fine : (i k : ℕ) (r : Appended) → slice_get (records i) k ≡ Some r → ok r.words ≡ true) (cases : (i k : ℕ) (r : Appended) → slice_get (records i) k ≡ Some r → (r.count < length r.words) ⊎ (r ≡ whole r.address r.words)) where
  -- a row has words
  long_of : (i k : ℕ) (r : Appended) → slice_get (records i) k ≡ Some r → 0 < length r.words
  long_of i k r at = by r.words (ends_with r.words (fine i k r at)).0
    where
      by : (row : List ℕ) → get_or row 0 0 ≢ 0 → 0 < length row
      by [] some = absurd (some refl)
      by (w ∷ row) some = omega arith

  -- a record of which something was stored begins with its first word
  begins : (i k : ℕ) (r : Appended) → slice_get (records i) k ≡ Some r → 0 < r.count → slice_get words r.address ≡ Some (get_or r.words 0 0)
  begins i k r at some =
      let first = slice_get-get_or r.words 0 0 (long_of i k r at) in
      let below = have.within i k 0 (get_or r.words 0 0) r at some first (ends_with r.words (fine i k r at)).0 in
      let here : r.address + 0 ≡ r.address = omega arith in
      subst (λ (a : ℕ). slice_get words a ≡ Some (get_or r.words 0 0)) here (have.stored i k 0 (get_or r.words 0 0) r at some first below)

  -- a whole one ends with a word that isn't 0
  ends : (i k a : ℕ) (row : List ℕ) → slice_get (records i) k ≡ Some (whole a row) → (v : ℕ) × (slice_get words (a + (length row - 1)) ≡ Some v) × (v ≢ 0)
  ends i k a row at =
      let last : length row - 1 < length row = omega (arith, long_of i k (whole a row) at) in
      let v = get_or row (length row - 1) 0 in
      let some = (ends_with row (fine i k (whole a row) at)).1 in
      let there = slice_get-get_or row (length row - 1) 0 last in
      (v, have.stored i k (length row - 1) v (whole a row) at last there (have.within i k (length row - 1) v (whole a row) at last there some), some)

  start : AreBelow records 0 []
  start = record { each = λ n row at. absurd (cc at); all = λ i k a row at less. absurd (omega (arith, less)); order = λ n m row next less at more. absurd (cc at); clear = λ i k r at some. inr (omega arith) }

  end : (a : ℕ) (found : List (ℕ × List ℕ)) → AreBelow records a found → length words ≤ a → AreWhole records found
  end a found below far = record {
    each = λ n row e. (below.each n row e).0;
    all = λ i k b row e. let last = ends i k b row e in below.all i k b row e (omega (arith, far, slice_get_within words (b + (length row - 1)) last.0 last.1));
    order = below.order;
  }

  module _ (at : ℕ) (found : List (ℕ × List ℕ)) (below : AreBelow records at found) where
    -- nothing begins at a 0
    pass : slice_get words at ≡ Some 0 → AreBelow records (at + 1) found
    pass zero_there = record {
      each = λ n row e. let one = below.each n row e in (one.0, omega (arith, one.1));
      all = λ i k a row e less.
          ⊎_elim (λ (old : a < at). below.all i k a row e old)
          (λ (more : at ≤ a). absurd (not_here i k (whole a row) e (long_of i k (whole a row) e) (omega (arith, less, more))))
          (cases_lt a at);
      order = below.order;
      clear = λ i k r e some.
          ⊎_elim (λ (low : r.address + length r.words ≤ at). inl (omega (arith, low)))
          (λ (high : at ≤ r.address).
          ⊎_elim (λ (same : r.address ≡ at). absurd (not_here i k r e some same))
          (λ (other : r.address ≢ at). inr (next r.address high other))
          (cases_eq r.address at))
          (below.clear i k r e some);
    }
      where
        next : (a : ℕ) → at ≤ a → a ≢ at → at + 1 ≤ a
        next a high other = ⊎_elim (λ (less : at < a). omega (arith, less)) (λ (le : a ≤ at). absurd (other (omega (arith, le, high)))) (cases_lt at a)

        not_here : (i k : ℕ) (r : Appended) → slice_get (records i) k ≡ Some r → 0 < r.count → r.address ≡ at → ⊥
        not_here i k r e some here =
            let first = subst (λ (a : ℕ). slice_get words a ≡ Some (get_or r.words 0 0)) here (begins i k r e some) in
            (ends_with r.words (fine i k r e)).0 (same_Some (get_or r.words 0 0) 0 (sym first ∙ zero_there))

    -- what else stands there is the first word of a record
    module _ (v : ℕ) (there : slice_get words at ≡ Some v) (some : v ≢ 0) where
      record IsHere : Type 0 where
        i : ℕ
        k : ℕ
        one : Appended
        is : slice_get (records i) k ≡ Some one
        address : one.address ≡ at
        first : get_or one.words 0 0 ≡ v
        stored : 0 < one.count

      here : IsHere
      here = ⊎_elim (λ (none : v ≡ 0). absurd (some none)) found_here (have.others at v there)
        where
          found_here : IsWordOf records at v → IsHere
          found_here w =
              let r = w.3 in
              let stored : 0 < r.count = omega (arith, w.5) in
              let begin : r.address ≡ at =
              ⊎_elim (λ (low : r.address + length r.words ≤ at). absurd (omega (arith, low, w.7, slice_get_within r.words w.2 v w.6)))
              (λ (high : at ≤ r.address). omega (arith, high, w.7))
              (below.clear w.0 w.1 r w.4 stored) in
              let first = subst (λ (a : ℕ). slice_get words a ≡ Some (get_or r.words 0 0)) begin (begins w.0 w.1 r w.4 stored) in
              record { i = w.0; k = w.1; one = r; is = w.4; address = begin; first = same_Some (get_or r.words 0 0) v (sym first ∙ there); stored = stored }

      abbrev row : List ℕ
      row = here.one.words

      abbrev long : ℕ
      long = length row

      some_long : 0 < long
      some_long = long_of here.i here.k here.one here.is

      -- each record is that one, or lies below it, or behind it
      around : (j l : ℕ) (s : Appended) → slice_get (records j) l ≡ Some s → (here.one ≡ s) ⊎ ((at + long ≤ s.address) ⊎ (s.address + length s.words ≤ at))
      around j l s e =
          ⊎_elim
          (λ (same : (here.i ≡ j) × (here.k ≡ l)). inl (same_Some here.one s (sym here.is ∙ ap (λ (n : ℕ). slice_get (records n) here.k) same.0 ∙ ap (slice_get (records j)) same.1 ∙ e)))
          (λ (other : (here.one.address + length here.one.words ≤ s.address) ⊎ (s.address + length s.words ≤ here.one.address)).
          inr (⊎_elim (λ (high : here.one.address + length here.one.words ≤ s.address). inl (omega (arith, high, here.address)))
          (λ (low : s.address + length s.words ≤ here.one.address). inr (omega (arith, low, here.address)))
          other))
          (apart here.i here.k j l here.one s here.is e)

      -- no record lies across its end
      clear_behind : (i k : ℕ) (r : Appended) → slice_get (records i) k ≡ Some r → 0 < r.count → (r.address + length r.words ≤ at + long) ⊎ (at + long ≤ r.address)
      clear_behind i k r e stored =
          ⊎_elim (λ (same : here.one ≡ r). inl (subst (λ (x : Appended). x.address + length x.words ≤ at + long) same (omega (arith, here.address))))
          (⊎_elim (λ (high : at + long ≤ r.address). inr high) (λ (low : r.address + length r.words ≤ at). inl (omega (arith, low))))
          (around i k r e)

      -- a whole one from there on, that doesn't begin behind it, is that one
      only_here : (i k a : ℕ) (own : List ℕ) → slice_get (records i) k ≡ Some (whole a own) → at ≤ a → a < at + long → here.one ≡ whole a own
      only_here i k a own e le less =
          ⊎_elim (λ (same : here.one ≡ whole a own). same)
          (⊎_elim (λ (high : at + long ≤ a). absurd (omega (arith, high, less))) (λ (low : a + length own ≤ at). absurd (omega (arith, low, le, long_of i k (whole a own) e))))
          (around i k (whole a own) e)

      refused : here.one.count < long → IsRefusedAt words records at found row
      refused few = record {
        last = last;
        next = record {
          each = λ n x e. let one = below.each n x e in (one.0, omega (arith, one.1));
          all = λ i k a own e less.
              ⊎_elim (λ (old : a < at). below.all i k a own e old)
              (λ (more : at ≤ a). let same = only_here i k a own e more less in absurd (omega (arith, few, ap (λ (x : Appended). x.count) same, ap (λ (x : Appended). length x.words) same)))
              (cases_lt a at);
          order = below.order;
          clear = clear_behind;
        };
      }
        where
          last : (w : ℕ) → slice_get words (at + (long - 1)) ≡ Some w → w ≡ 0
          last w e = ⊎_elim (λ (none : w ≡ 0). none) (λ (is : IsWordOf records (at + (long - 1)) w). absurd (in_none is)) (have.others (at + (long - 1)) w e)
            where
              in_none : IsWordOf records (at + (long - 1)) w → ⊥
              in_none is =
                  let inside = slice_get_within is.3.words is.2 w is.6 in
                  ⊎_elim (λ (same : here.one ≡ is.3). omega (arith, few, is.5, is.7, here.address, some_long, ap (λ (x : Appended). x.address) same, ap (λ (x : Appended). x.count) same))
                  (⊎_elim (λ (high : at + long ≤ is.3.address). omega (arith, high, is.7, some_long)) (λ (low : is.3.address + length is.3.words ≤ at). omega (arith, low, is.7, inside, some_long)))
                  (around is.0 is.1 is.3 is.4)

      module _ (is_whole : here.one ≡ whole at row) where
        there_is : slice_get (records here.i) here.k ≡ Some (whole at row)
        there_is = here.is ∙ ap (λ (r : Appended). Some r) is_whole

        inside_words : at + long ≤ length words
        inside_words = let last = ends here.i here.k at row there_is in omega (arith, slice_get_within words (at + (long - 1)) last.0 last.1, some_long)

        all_there : (m d : ℕ) → m < long → get_or words (at + m) d ≡ get_or row m d
        all_there m d less = get_or_from_slice_get words (at + m) (get_or row m d) d (have.stored here.i here.k m (get_or row m d) (whole at row) there_is less (slice_get-get_or row m d less) (omega (arith, less, inside_words)))

        put : AreBelow records (at + long) (found ++ (at, row) ∷ [])
        put = record { each = each; all = all; order = order; clear = clear_behind }
          where
            each : (n : ℕ) (x : ℕ × List ℕ) → slice_get (found ++ (at, row) ∷ []) n ≡ Some x → ((i k : ℕ) × (slice_get (records i) k ≡ Some (whole x.0 x.1))) × (x.0 < at + long)
            each n x e =
                ⊎_elim (λ (old : slice_get found n ≡ Some x). let one = below.each n x old in (one.0, omega (arith, one.1)))
                (λ (new : (n ≡ length found) × ((at, row) ≡ x)).
                ((here.i, here.k, there_is ∙ ap (λ (y : ℕ × List ℕ). Some (whole y.0 y.1)) new.1), omega (arith, ap (λ (y : ℕ × List ℕ). y.0) new.1, some_long)))
                (at_end found n (at, row) x e)

            all : (i k a : ℕ) (own : List ℕ) → slice_get (records i) k ≡ Some (whole a own) → a < at + long → (n : ℕ) × (slice_get (found ++ (at, row) ∷ []) n ≡ Some (a, own))
            all i k a own e less =
                ⊎_elim (λ (old : a < at). let n = below.all i k a own e old in (n.0, before_end found n.0 (at, row) (a, own) n.1))
                (λ (more : at ≤ a).
                let same = sym is_whole ∙ only_here i k a own e more less in
                (length found, last_is found (at, row) ∙ ap (λ (r : Appended). Some (r.address, r.words)) same))
                (cases_lt a at)

            order : (n m : ℕ) (x y : ℕ × List ℕ) → n < m → slice_get (found ++ (at, row) ∷ []) n ≡ Some x → slice_get (found ++ (at, row) ∷ []) m ≡ Some y → x.0 < y.0
            order n m x y less e f =
                ⊎_elim
                (λ (old : slice_get found m ≡ Some y).
                ⊎_elim (λ (too : slice_get found n ≡ Some x). below.order n m x y less too old)
                (λ (new : (n ≡ length found) × ((at, row) ≡ x)). absurd (omega (arith, new.0, less, slice_get_within found m y old)))
                (at_end found n (at, row) x e))
                (λ (new : (m ≡ length found) × ((at, row) ≡ y)).
                ⊎_elim (λ (too : slice_get found n ≡ Some x). omega (arith, (below.each n x too).1, ap (λ (z : ℕ × List ℕ). z.0) new.1))
                (λ (also : (n ≡ length found) × ((at, row) ≡ x)). absurd (omega (arith, also.0, new.0, less)))
                (at_end found n (at, row) x e))
                (at_end found m (at, row) y f)

      over : (row : List ℕ) × (ok row ≡ true) × (get_or row 0 0 ≡ v) × (IsWholeAt words records at found row ⊎ IsRefusedAt words records at found row)
      over = (
        row,
        fine here.i here.k here.one here.is,
        here.first,
        ⊎_elim (λ (few : here.one.count < long). inr (refused few))
            (λ (e : here.one ≡ whole here.one.address row).
            let is = e ∙ ap (λ (a : ℕ). whole a row) here.address in
            inl (record { inside = inside_words is; there = all_there is; next = put is }))
            (cases here.i here.k here.one here.is),
      )

  can_scan : CanScan ok words records
  can_scan = record { start = start; pass = pass; over = λ a v found below. over a found below v; end = end }

-- what threads tell of the records that they appended
module _ {Out : Type 0} (ok : List ℕ → Bool) (all : List ActBy) (outs : List Out) (entries : Out → List (ℕ × List ℕ)) (told : AllHaveAppended ok all outs entries) where
  module _ (i k : ℕ) (r : Appended) (at : slice_get (told.records i) k ≡ Some r) where
    out_of : (out : Out) × (slice_get outs i ≡ Some out)
    out_of = told.theirs i k r at

    just : AreJust ok (told.records i) (entries out_of.0)
    just = told.just i out_of.0 out_of.1

  are_told : (found : List (ℕ × List ℕ)) → AreWhole told.records found → AreTold found outs entries
  are_told found are = record {
    each = λ n row at.
        let k = are.each n row at in
        let r = whole row.0 row.1 in
        let out = out_of k.0 k.1 r k.2 in
        ⊎_elim (λ (few : length row.1 < length row.1). absurd (omega (arith, few)))
        (λ (e : (r ≡ r) × (m : ℕ) × (slice_get (entries out.0) m ≡ Some (row.0, row.1))). (k.0, e.1, out.0, out.1, e.2))
        ((just k.0 k.1 r k.2).others k.1 r k.2);
    all = λ i m out row at_i at_m. let k = (told.just i out at_i).has m row at_m in are.all i k.0 row.0 row.1 k.1;
    order = are.order;
  }

  -- a record is whole, or its append was refused midway
  told_cases : (i k : ℕ) (r : Appended) → slice_get (told.records i) k ≡ Some r → (r.count < length r.words) ⊎ (r ≡ whole r.address r.words)
  told_cases i k r at = ⊎_elim (λ (few : r.count < length r.words). inl few) (λ (e : (r ≡ whole r.address r.words) × (n : ℕ) × (slice_get (entries (out_of i k r at).0) n ≡ Some (r.address, r.words))). inr e.0) ((just i k r at).others k r at)

pub records_are_scanned : (F Out : Type 0) → RecordsAreScanned F Out
records_are_scanned F Out ok sizes device ending words all outs entries ends left holds one told = (
  can_scan ok ends words told.records (words_are_records F sizes device ending words all told.records left holds one told.appends (λ i k r at. ((just ok all outs entries told i k r at).fine k r at).1)) (records_are_apart all told.records one told.appends)
      (λ i k r at. ((just ok all outs entries told i k r at).fine k r at).0) (told_cases ok all outs entries told),
  are_told ok all outs entries told,
)
