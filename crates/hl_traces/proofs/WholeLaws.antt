-- What a thread that loads a record's words has.
use Rattle.std.proofs.Common.{◌≡◌, ◌≢◌, ℕ, zero, suc, ◌+◌, ◌-◌, List, [], ◌∷◌, ◌++◌, length, Some, slice_get, refl, ap, sym, ◌∙◌, ⊎_elim, arith, append_assoc}
use Rattle.std.proofs.lemmas.Bool.{cases_eq}
use Rattle.std.proofs.lemmas.Option.{slice_get_within}
use Rattle.hl_traces.specs.declared.act.Act.{Act}
use Rattle.hl_traces.specs.declared.act.Act.TheVariants.{Loaded}
use Rattle.hl_traces.specs.OneTrace.{ActBy, by_thread, acts_by}
use Rattle.hl_traces.specs.Records.{loads_from, RecordsAreWhole, RecordsAreFoundBy}
use Rattle.hl_traces.proofs.ThreadLaws.{own_act, other_act}
use Rattle.hl_traces.proofs.RecordLaws.{records_are_found, records_are_read}

-- where one of a thread's acts stands among all
record IsAmong (j : ℕ) (all : List ActBy) (act : Act) (ys : List Act) : Type 0 where
  newer : List ActBy
  before : List ActBy
  all_are : all ≡ newer ++ by_thread j act ∷ before
  own_are : acts_by j before ≡ ys

first_of : (x y : Act) (xs ys : List Act) → x ∷ xs ≡ y ∷ ys → (x ≡ y) × (xs ≡ ys)
first_of x y xs ys e = ((let f = e in cc), (let f = e in cc))

none_there : (act : Act) (xs ys : List Act) → [] ≡ xs ++ act ∷ ys → ⊥
none_there act [] ys e = absurd (cc e)
none_there act (x ∷ xs) ys e = absurd (cc e)

more_among : (j : ℕ) (t : ActBy) (all : List ActBy) (act : Act) (ys : List Act) → IsAmong j all act ys → IsAmong j (t ∷ all) act ys
more_among j t all act ys a = record { newer = t ∷ a.newer; before = a.before; all_are = ap (λ (l : List ActBy). t ∷ l) a.all_are; own_are = a.own_are }

among : (j : ℕ) (all : List ActBy) (xs : List Act) (act : Act) (ys : List Act) → acts_by j all ≡ xs ++ act ∷ ys → IsAmong j all act ys
among j [] xs act ys e = absurd (none_there act xs ys e)
among j (t ∷ all) xs act ys e =
    ⊎_elim
    (λ (own : t.thread ≡ j). at_own xs own (sym (own_act j t all own) ∙ e) (λ zs f. among j all zs act ys f))
    (λ (apart : t.thread ≢ j). more_among j t all act ys (among j all xs act ys (sym (other_act j t all apart) ∙ e)))
    (cases_eq t.thread j)
  where
    at_own : (xs : List Act) → t.thread ≡ j → t.act ∷ acts_by j all ≡ xs ++ act ∷ ys → ((zs : List Act) → acts_by j all ≡ zs ++ act ∷ ys → IsAmong j all act ys) → IsAmong j (t ∷ all) act ys
    at_own [] own f rest =
        let both = first_of t.act act (acts_by j all) ys f in
        record { newer = []; before = all; all_are = ap (λ (i : ℕ). by_thread i t.act ∷ all) own ∙ ap (λ (x : Act). by_thread j x ∷ all) both.0; own_are = both.1 }
    at_own (x ∷ zs) own f rest = more_among j t all act ys (rest zs (first_of t.act x (acts_by j all) (zs ++ act ∷ ys) f).1)

-- loads stand in front of what was before
loads_front : (a : ℕ) (ws : List ℕ) (base : List Act) → (front : List Act) × (loads_from a ws base ≡ front ++ base)
loads_front a [] base = ([], refl)
loads_front a (w ∷ ws) base =
    let f = loads_front (a + 1) ws (Loaded a w ∷ base) in
    (f.0 ++ Loaded a w ∷ [], f.1 ∙ sym (append_assoc f.0 (Loaded a w ∷ []) base))

-- one of them
loads_at : (a : ℕ) (ws : List ℕ) (l w : ℕ) (base : List Act) → slice_get ws l ≡ Some w → (later : List Act) × (early : List Act) × (loads_from a ws base ≡ later ++ Loaded (a + l) w ∷ (early ++ base))
loads_at a [] l w base e = absurd (cc e)
loads_at a (x ∷ ws) zero w base e =
    let f = loads_front (a + 1) ws (Loaded a x ∷ base) in
    let same : x ≡ w = cc e in
    let at : a ≡ a + 0 = omega arith in
    (f.0, [], f.1 ∙ ap (λ (v : ℕ). f.0 ++ Loaded a v ∷ base) same ∙ ap (λ (b : ℕ). f.0 ++ Loaded b w ∷ base) at)
loads_at a (x ∷ ws) (suc l) w base e =
    let f = loads_at (a + 1) ws l w (Loaded a x ∷ base) e in
    let at : a + 1 + l ≡ a + suc l = omega arith in (
      f.0,
      f.1 ++ Loaded a x ∷ [],
      f.2 ∙ ap (λ (b : ℕ). f.0 ++ Loaded b w ∷ (f.1 ++ Loaded a x ∷ base)) at ∙ ap (λ (z : List Act). f.0 ++ Loaded (a + suc l) w ∷ z) (sym (append_assoc f.1 (Loaded a x ∷ []) base)),
    )

-- rows of one length are the same if their elements are
same_rows : (xs ys : List ℕ) → length xs ≡ length ys → ((l x y : ℕ) → slice_get xs l ≡ Some x → slice_get ys l ≡ Some y → x ≡ y) → xs ≡ ys
same_rows [] [] long each = refl
same_rows [] (y ∷ ys) long each = absurd (omega (arith, long))
same_rows (x ∷ xs) [] long each = absurd (omega (arith, long))
same_rows (x ∷ xs) (y ∷ ys) long each =
    ap (λ (z : ℕ). z ∷ xs) (each 0 x y refl refl) ∙ ap (λ (zs : List ℕ). y ∷ zs) (same_rows xs ys (omega (arith, long)) (λ l u v e f. each (suc l) u v e f))

pub records_are_found_by : RecordsAreFoundBy
records_are_found_by all records one appends i k j x m v r later base at_r at_m own some =
    let a = among j all later (Loaded (r.address + m) x) base own in
    ⊎_elim
    (λ (none : x ≡ 0). absurd (some none))
    (λ (same : x ≡ v). same)
    (records_are_found all records one appends i k m v r at_r at_m a.newer a.before j x a.all_are)

pub records_are_whole : RecordsAreWhole
records_are_whole all records one appends i k j x r words later between base at_r own long some found = same_rows words r.words long each
  where
    each : (l y v : ℕ) → slice_get words l ≡ Some y → slice_get r.words l ≡ Some v → y ≡ v
    each l y v at_y at_v =
        let m = length words - 1 in
        let last = Loaded (r.address + m) x in
        let load = Loaded (r.address + l) y in
        let f = loads_at r.address words l y (between ++ last ∷ base) at_y in
        let parts : acts_by j all ≡ (later ++ f.0) ++ load ∷ (f.1 ++ (between ++ last ∷ base)) = own ∙ ap (λ (z : List Act). later ++ z) f.2 ∙ sym (append_assoc later f.0 (load ∷ (f.1 ++ (between ++ last ∷ base)))) in
        let first = among j all (later ++ f.0) load (f.1 ++ (between ++ last ∷ base)) parts in
        let second = among j first.before (f.1 ++ between) last base (first.own_are ∙ sym (append_assoc f.1 between (last ∷ base))) in
        let whole = first.all_are ∙ ap (λ (z : List ActBy). first.newer ++ by_thread j load ∷ z) second.all_are in
        let few = slice_get_within words l y at_y in
        records_are_read all records one appends i k m l v r at_r (omega (arith, long, some)) (omega (arith, few)) at_v first.newer second.newer second.before j j x y whole found
