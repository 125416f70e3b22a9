-- A session's appends as records.
use Rattle.std.proofs.Common.{◌≡◌, ℕ, zero, suc, ◌+◌, ◌<◌, ◌⊎◌, Bool, true, List, [], ◌∷◌, ◌++◌, length, take, flat_map, slice_get, Some, refl, ap, sym, ◌∙◌, subst, inl, inr, ⊎_elim, append_assoc}
use Rattle.std.specs.Prelude.{Ok, Err}
use Rattle.std.specs.List.{AllByRecursion as Every}
use Rattle.hl_traces.specs.declared.act.Act.{Act}
use Rattle.hl_traces.specs.declared.act.Act.TheVariants.{Placed, Stored, Loaded, Changed, Met}
use Rattle.hl_traces.specs.Records.{Appended, append_acts, changes, stores_from, AppendsOnly}
use Rattle.hl.specs.Sessions.{SessionState}
use Rattle.hl.specs.Traces.{acts, without_met, AreMet, InVain}
use Rattle.hl.specs.Uses.{whole, AppendsMore, AreJust, AreNumbers}

-- changes of both
pub changes_both : (xs ys : List Act) → changes (xs ++ ys) ≡ changes xs ++ changes ys
changes_both [] ys = refl
changes_both (Placed a n ∷ xs) ys = ap (λ (l : List Act). Placed a n ∷ l) (changes_both xs ys)
changes_both (Stored a v ∷ xs) ys = ap (λ (l : List Act). Stored a v ∷ l) (changes_both xs ys)
changes_both (Loaded a v ∷ xs) ys = changes_both xs ys
changes_both (Changed a f v ∷ xs) ys = ap (λ (l : List Act). Changed a f v ∷ l) (changes_both xs ys)
changes_both (Met n ∷ xs) ys = changes_both xs ys

-- locked calls change nothing
changes_unmet : (own : List Act) → changes (without_met own) ≡ changes own
changes_unmet [] = refl
changes_unmet (Placed a n ∷ own) = ap (λ (l : List Act). Placed a n ∷ l) (changes_unmet own)
changes_unmet (Stored a v ∷ own) = ap (λ (l : List Act). Stored a v ∷ l) (changes_unmet own)
changes_unmet (Loaded a v ∷ own) = changes_unmet own
changes_unmet (Changed a f v ∷ own) = ap (λ (l : List Act). Changed a f v ∷ l) (changes_unmet own)
changes_unmet (Met n ∷ own) = changes_unmet own

pub changes_met : (own : List Act) → AreMet own → changes own ≡ []
changes_met [] met = refl
changes_met (act ∷ own) met = ap (λ (x : Act). changes (x ∷ own)) met.0.1 ∙ changes_met own met.1

-- stores are changes
changes_stores : (a : ℕ) (ws : List ℕ) (before : List Act) → changes before ≡ before → changes (stores_from a ws before) ≡ stores_from a ws before
changes_stores a [] before same = same
changes_stores a (w ∷ ws) before same = changes_stores (a + 1) ws (Stored a w ∷ before) (ap (λ (l : List Act). Stored a w ∷ l) same)

changes_append : (r : Appended) → changes (append_acts r) ≡ append_acts r
changes_append r = changes_stores r.address (take r.count r.words) (Placed r.address (length r.words) ∷ []) refl

-- a record of these words whose append was refused midway
abbrev pub IsVain : List ℕ → Appended → Type 0
IsVain words r = (r.words ≡ words) × (r.count < length words)

-- a record that was asked for in vain
vain_one : (words : List ℕ) (own : List Act) → InVain words own → (more : List Appended) × (own ≡ flat_map append_acts more) × Every (IsVain words) more
vain_one words own (inl none) = ([], none, tt)
vain_one words own (inr some) =
    let r : Appended = record { address = some.0; words = words; count = some.1 } in
    (r ∷ [], some.3 ∙ sym (nothing_behind (append_acts r)), ((refl, some.2), tt))
  where
    nothing_behind : (xs : List Act) → xs ++ [] ≡ xs
    nothing_behind [] = refl
    nothing_behind (x ∷ xs) = ap (λ (l : List Act). x ∷ l) (nothing_behind xs)

every_both : (P : Appended → Type 0) (xs ys : List Appended) → Every P xs → Every P ys → Every P (xs ++ ys)
every_both P [] ys one two = two
every_both P (x ∷ xs) ys one two = (one.0, every_both P xs ys one.1 two)

appends_both : (xs ys : List Appended) → flat_map append_acts (xs ++ ys) ≡ flat_map append_acts xs ++ flat_map append_acts ys
appends_both [] ys = refl
appends_both (x ∷ xs) ys = ap (λ (l : List Act). append_acts x ++ l) (appends_both xs ys) ∙ sym (append_assoc (append_acts x) (flat_map append_acts xs) (flat_map append_acts ys))

vain_all : (words : List ℕ) (vain : List (List Act)) → Every (InVain words) vain → (more : List Appended) × (flat_map (λ acts. acts) vain ≡ flat_map append_acts more) × Every (IsVain words) more
vain_all words [] all = ([], refl, tt)
vain_all words (own ∷ vain) all =
    let one = vain_one words own all.0 in
    let rest = vain_all words vain all.1 in (
      one.0 ++ rest.0,
      ap (λ (l : List Act). l ++ flat_map (λ acts. acts) vain) one.1 ∙ ap (λ (l : List Act). flat_map append_acts one.0 ++ l) rest.1 ∙ sym (appends_both one.0 rest.0),
      every_both (IsVain words) one.0 rest.0 one.2 rest.2,
    )

changes_records : (rs : List Appended) → changes (flat_map append_acts rs) ≡ flat_map append_acts rs
changes_records [] = refl
changes_records (r ∷ rs) = changes_both (append_acts r) (flat_map append_acts rs) ∙ ap (λ (l : List Act). l ++ changes (flat_map append_acts rs)) (changes_append r) ∙ ap (λ (l : List Act). append_acts r ++ l) (changes_records rs)

-- acts that are those of records, on top of a session's
pub records_more : (own : List Act) (old new : SessionState) (more records : List Appended) → without_met own ≡ flat_map append_acts more → acts new ≡ own ++ acts old → AppendsOnly records (acts old) → AppendsOnly (more ++ records) (acts new)
records_more own old new more records are did before =
    ap changes did ∙ changes_both own (acts old)
    ∙ ap (λ (l : List Act). l ++ changes (acts old)) (sym (changes_unmet own) ∙ ap changes are ∙ changes_records more)
    ∙ ap (λ (l : List Act). flat_map append_acts more ++ l) before
    ∙ sym (appends_both more records)

take_all : (xs : List ℕ) → take (length xs) xs ≡ xs
take_all [] = refl
take_all (x ∷ xs) = ap (λ (l : List ℕ). x ∷ l) (take_all xs)

-- an element behind others, or one of those
behind : {X : Type 0} (more xs : List X) (k : ℕ) (x : X) → slice_get xs k ≡ Some x → (j : ℕ) × (slice_get (more ++ xs) j ≡ Some x)
behind [] xs k x at = (k, at)
behind (y ∷ more) xs k x at = let j = behind more xs k x at in (suc j.0, j.1)

one_of : (P Q : Appended → Type 0) (more xs : List Appended) → Every P more → ((k : ℕ) (r : Appended) → slice_get xs k ≡ Some r → Q r) → ((r : Appended) → P r → Q r) → (k : ℕ) (r : Appended) → slice_get (more ++ xs) k ≡ Some r → Q r
one_of P Q [] xs each old new k r at = old k r at
one_of P Q (y ∷ more) xs each old new zero r at = let same : y ≡ r = cc at in new r (subst P same each.0)
one_of P Q (y ∷ more) xs each old new (suc k) r at = one_of P Q more xs each.1 old new k r at

-- what of a record's words is known if the record is whole
abbrev IsTold : List (ℕ × List ℕ) → Appended → Type 0
IsTold entries r = (r.count < length r.words) ⊎ ((r ≡ whole r.address r.words) × (n : ℕ) × (slice_get entries n ≡ Some (r.address, r.words)))

-- records that were appended in vain change nothing of what is told
module _ (ok : List ℕ → Bool) (words : List ℕ) (fine : (ok words ≡ true) × AreNumbers words) (vain records : List Appended) (are : Every (IsVain words) vain) where
  abbrev IsFine : List ℕ → Type 0
  IsFine row = (ok row ≡ true) × AreNumbers row

  vain_just : (entries : List (ℕ × List ℕ)) → AreJust ok records entries → AreJust ok (vain ++ records) entries
  vain_just entries just = record {
    has = λ n entry at. let k = just.has n entry at in behind vain records k.0 (whole entry.0 entry.1) k.1;
    others = one_of (IsVain words) (IsTold entries) vain records are just.others (λ r is. inl (subst (λ (l : List ℕ). r.count < length l) (sym is.0) is.1));
    fine = one_of (IsVain words) (λ r. IsFine r.words) vain records are just.fine (λ r is. subst IsFine (sym is.0) fine);
  }

  -- and a whole one is told besides
  whole_just : (a : ℕ) (entries : List (ℕ × List ℕ)) → AreJust ok records entries → AreJust ok (whole a words ∷ (vain ++ records)) (entries ++ (a, words) ∷ [])
  whole_just a entries just = record { has = has; others = others; fine = all_ok }
    where
      old : AreJust ok (vain ++ records) entries
      old = vain_just entries just

      at_end : (xs : List (ℕ × List ℕ)) (n : ℕ) (x entry : ℕ × List ℕ) → slice_get (xs ++ x ∷ []) n ≡ Some entry → (slice_get xs n ≡ Some entry) ⊎ (x ≡ entry)
      at_end [] zero x entry at = inr (cc at)
      at_end [] (suc n) x entry at = absurd (cc at)
      at_end (y ∷ xs) zero x entry at = inl at
      at_end (y ∷ xs) (suc n) x entry at = at_end xs n x entry at

      before_end : (xs : List (ℕ × List ℕ)) (n : ℕ) (x entry : ℕ × List ℕ) → slice_get xs n ≡ Some entry → slice_get (xs ++ x ∷ []) n ≡ Some entry
      before_end [] n x entry at = absurd (cc at)
      before_end (y ∷ xs) zero x entry at = at
      before_end (y ∷ xs) (suc n) x entry at = before_end xs n x entry at

      last : (xs : List (ℕ × List ℕ)) (x : ℕ × List ℕ) → slice_get (xs ++ x ∷ []) (length xs) ≡ Some x
      last [] x = refl
      last (y ∷ xs) x = last xs x

      has : (n : ℕ) (entry : ℕ × List ℕ) → slice_get (entries ++ (a, words) ∷ []) n ≡ Some entry → (k : ℕ) × (slice_get (whole a words ∷ (vain ++ records)) k ≡ Some (whole entry.0 entry.1))
      has n entry at =
          ⊎_elim
          (λ (e : slice_get entries n ≡ Some entry). let k = old.has n entry e in (suc k.0, k.1))
          (λ (e : (a, words) ≡ entry). (0, ap (λ (x : ℕ × List ℕ). Some (whole x.0 x.1)) e))
          (at_end entries n (a, words) entry at)

      others : (k : ℕ) (r : Appended) → slice_get (whole a words ∷ (vain ++ records)) k ≡ Some r → IsTold (entries ++ (a, words) ∷ []) r
      others zero r at = let same : whole a words ≡ r = cc at in subst (IsTold (entries ++ (a, words) ∷ [])) same (inr (refl, length entries, last entries (a, words)))
      others (suc k) r at =
          ⊎_elim
          (λ (few : r.count < length r.words). inl few)
          (λ (is : (r ≡ whole r.address r.words) × (n : ℕ) × (slice_get entries n ≡ Some (r.address, r.words))). inr (is.0, is.1, before_end entries is.1 (a, words) (r.address, r.words) is.2))
          (old.others k r at)

      all_ok : (k : ℕ) (r : Appended) → slice_get (whole a words ∷ (vain ++ records)) k ≡ Some r → IsFine r.words
      all_ok zero r at = let same : whole a words ≡ r = cc at in subst (λ (x : Appended). IsFine x.words) same fine
      all_ok (suc k) r at = old.fine k r at

pub appends_more : AppendsMore
appends_more ok again words (Ok a) old new entries is_ok fit by before =
    let vain = vain_all words by.2 by.3 in
    let one : stores_from a words (Placed a (length words) ∷ []) ≡ append_acts (whole a words) = ap (λ ws. stores_from a ws (Placed a (length words) ∷ [])) (sym (take_all words)) in
    let are = by.5 ∙ ap (λ (l : List Act). l ++ flat_map (λ acts. acts) by.2) one ∙ ap (λ (l : List Act). append_acts (whole a words) ++ l) vain.1 in
    record {
      records = whole a words ∷ (vain.0 ++ before.records);
      only = records_more by.0 old new (whole a words ∷ vain.0) before.records are by.1 before.only;
      just = whole_just ok words (is_ok, fit) vain.0 before.records vain.2 a entries before.just;
    }
appends_more ok again words (Err fault) old new entries is_ok fit by before =
    let vain = vain_all words by.2 by.3 in
    let last = vain_one words by.5.0 by.5.1 in
    let are = by.5.2 ∙ ap (λ (l : List Act). l ++ flat_map (λ acts. acts) by.2) last.1 ∙ ap (λ (l : List Act). flat_map append_acts last.0 ++ l) vain.1 ∙ sym (appends_both last.0 vain.0) in
    record {
      records = (last.0 ++ vain.0) ++ before.records;
      only = records_more by.0 old new (last.0 ++ vain.0) before.records are by.1 before.only;
      just = vain_just ok words (is_ok, fit) (last.0 ++ vain.0) before.records (every_both (IsVain words) last.0 vain.0 last.2 vain.2) entries before.just;
    }
