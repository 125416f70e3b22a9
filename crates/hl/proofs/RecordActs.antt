-- What a session's records put into its trace.
use Rattle.std.proofs.Common.{◌≡◌, ℕ, suc, ◌+◌, ◌<◌, ◌≤◌, List, [], ◌∷◌, ◌++◌, length, take, set, get_or, refl, ap, sym, ◌∙◌, inl, inr, arith, append_assoc}
use Rattle.std.specs.Prelude.{Result, Ok, Err, MatchResult}
use Rattle.std.specs.List.{AllByRecursion as Every, flat_map}
use Rattle.std.proofs.Math.Seq.{take-suc, take-suc-set}
use Rattle.std.proofs.lemmas.List.{length-take}
use Rattle.hl_model.specs.declared.fault.Fault.{Fault}
use Rattle.hl_traces.specs.declared.act.Act.{Act}
use Rattle.hl_traces.specs.declared.act.Act.TheVariants.{Placed, Stored, Loaded, Changed, Met}
use Rattle.hl.specs.Sessions.{SessionState}
use Rattle.hl_traces.specs.Records.{loads_from, stores_from}
use Rattle.hl.specs.Traces.{acts, if_ok, without_met, AreMet, Does, InVain, Meets, OnlyMeets, PlacesBy, Stores, StoresSome, AppendsBy}

-- a row of loads, with one more
loads_push : (a : ℕ) (ws : List ℕ) (w : ℕ) (before : List Act) → loads_from a (ws ++ w ∷ []) before ≡ Loaded (a + length ws) w ∷ loads_from a ws before
loads_push a [] w before = ap (λ n. Loaded n w ∷ before) (omega arith)
loads_push a (x ∷ ws) w before = loads_push (a + 1) ws w (Loaded a x ∷ before) ∙ ap (λ n. Loaded n w ∷ loads_from (a + 1) ws (Loaded a x ∷ before)) (omega arith)

pub loads_on : (s m q : SessionState) (a k w : ℕ) (out : List ℕ) → k < length out → acts m ≡ loads_from a (take k out) (acts s) → Does (Loaded (a + k) w ∷ []) m q → acts q ≡ loads_from a (take (k + 1) (set out k w)) (acts s)
loads_on s m q a k w out less before after =
    let next : k + 1 ≡ suc k = omega arith in
    let row : take (k + 1) (set out k w) ≡ take k out ++ w ∷ [] = ap (λ n. take n (set out k w)) next ∙ take-suc-set out k w less in
    let len : length (take k out) ≡ k = omega (arith, length-take k out, less) in
    after ∙ ap (λ (l : List Act). Loaded (a + k) w ∷ l) before
    ∙ sym (ap (λ l. loads_from a l (acts s)) row ∙ loads_push a (take k out) w (acts s) ∙ ap (λ n. Loaded (a + n) w ∷ loads_from a (take k out) (acts s)) len)

-- a row of stores, with one more
stores_push : (a : ℕ) (ws : List ℕ) (w : ℕ) (before : List Act) → stores_from a (ws ++ w ∷ []) before ≡ Stored (a + length ws) w ∷ stores_from a ws before
stores_push a [] w before = ap (λ n. Stored n w ∷ before) (omega arith)
stores_push a (x ∷ ws) w before = stores_push (a + 1) ws w (Stored a x ∷ before) ∙ ap (λ n. Stored n w ∷ stores_from (a + 1) ws (Stored a x ∷ before)) (omega arith)

-- on top of others
stores_both : (a : ℕ) (ws : List ℕ) (xs ys : List Act) → stores_from a ws (xs ++ ys) ≡ stores_from a ws xs ++ ys
stores_both a [] xs ys = refl
stores_both a (w ∷ ws) xs ys = stores_both (a + 1) ws (Stored a w ∷ xs) ys

-- what is left of two lists
without_both : (xs ys : List Act) → without_met (xs ++ ys) ≡ without_met xs ++ without_met ys
without_both [] ys = refl
without_both (Met n ∷ xs) ys = without_both xs ys
without_both (Placed a n ∷ xs) ys = ap (λ (l : List Act). Placed a n ∷ l) (without_both xs ys)
without_both (Stored a v ∷ xs) ys = ap (λ (l : List Act). Stored a v ∷ l) (without_both xs ys)
without_both (Loaded a v ∷ xs) ys = ap (λ (l : List Act). Loaded a v ∷ l) (without_both xs ys)
without_both (Changed a f v ∷ xs) ys = ap (λ (l : List Act). Changed a f v ∷ l) (without_both xs ys)

-- nothing of locked calls
without_all : (xs : List Act) → AreMet xs → without_met xs ≡ []
without_all [] h = refl
without_all (x ∷ xs) h = ap (λ (y : Act). without_met (y ∷ xs)) h.0.1 ∙ without_all xs h.1

-- what was done once and then more
did_then : (own more : List Act) (s m q : SessionState) → Does own s m → Does more m q → Does (more ++ own) s q
did_then own more s m q one two = two ∙ ap (λ (l : List Act). more ++ l) one ∙ sym (append_assoc more own (acts s))

-- nothing stored yet
pub stored_none : (a : ℕ) (s : SessionState) → Stores a [] s s
stored_none a s = ([], refl, refl)

-- a store that was answered, after some calls
pub stored_after : (a w : ℕ) (result : Result (Unit {0}) Fault) (s m q : SessionState) → OnlyMeets s m → Does (if_ok (λ _. Stored a w ∷ []) result) m q → MatchResult result (λ _. Stores a (w ∷ []) s q) (λ _. OnlyMeets s q)
stored_after a w (Ok x) s m q one two = (Stored a w ∷ one.0, ap (λ (l : List Act). Stored a w ∷ l) (without_all one.0 one.1), did_then one.0 (Stored a w ∷ []) s m q one.2 two)
stored_after a w (Err fault) s m q one two = (one.0, one.1, did_then one.0 [] s m q one.2 two)

-- an answer after nothing was done
pub answered_after : (a w : ℕ) (result : Result (Unit {0}) Fault) (s m q : SessionState) → Does [] s m → MatchResult result (λ _. Stores a (w ∷ []) m q) (λ _. OnlyMeets m q) → MatchResult result (λ _. Stores a (w ∷ []) s q) (λ _. OnlyMeets s q)
answered_after a w (Ok x) s m q none h = (h.0, h.1, h.2 ∙ ap (λ (l : List Act). h.0 ++ l) none)
answered_after a w (Err fault) s m q none h = (h.0, h.1, h.2 ∙ ap (λ (l : List Act). h.0 ++ l) none)

-- one word more
pub stores_next : (a k d : ℕ) (words : List ℕ) (s m q : SessionState) → k < length words → Stores a (take k words) s m → Stores (a + k) (get_or words k d ∷ []) m q → Stores a (take (k + 1) words) s q
stores_next a k d words s m q less x y =
    let len : length (take k words) ≡ k = omega (arith, length-take k words, less) in
    let next : k + 1 ≡ suc k = omega arith in
    let row : take (k + 1) words ≡ take k words ++ get_or words k d ∷ [] = ap (λ n. take n words) next ∙ take-suc words k d less in (
      y.0 ++ x.0,
      without_both y.0 x.0 ∙ ap (λ (l : List Act). l ++ without_met x.0) y.1 ∙ ap (λ (l : List Act). Stored (a + k) (get_or words k d) ∷ l) x.1
          ∙ sym (ap (λ l. stores_from a l []) row ∙ stores_push a (take k words) (get_or words k d) [] ∙ ap (λ n. Stored (a + n) (get_or words k d) ∷ stores_from a (take k words) []) len),
      did_then x.0 y.0 s m q x.2 y.2,
    )

-- and then calls alone
pub stores_stop : (a k : ℕ) (words : List ℕ) (s m q : SessionState) → k < length words → Stores a (take k words) s m → OnlyMeets m q → StoresSome a words s q
stores_stop a k words s m q less x y = (
  k,
  less,
  (y.0 ++ x.0, without_both y.0 x.0 ∙ ap (λ (l : List Act). l ++ without_met x.0) (without_all y.0 y.1) ∙ x.1, did_then x.0 y.0 s m q x.2 y.2),
)

-- a record that was placed and stored
pub places_all : (a : ℕ) (words : List ℕ) (s m q : SessionState) → Meets (Placed a (length words) ∷ []) s m → Stores a words m q → PlacesBy words (Ok a) s q
places_all a words s m q placed h =
    let own = Placed a (length words) ∷ Met placed.0 ∷ [] in (
      h.0 ++ own,
      did_then own h.0 s m q placed.1 h.2,
      without_both h.0 own ∙ ap (λ (l : List Act). l ++ Placed a (length words) ∷ []) h.1 ∙ sym (stores_both a words [] (Placed a (length words) ∷ [])),
    )

-- one that wasn't stored whole
pub places_some : (a : ℕ) (words : List ℕ) (fault : Fault) (s m q : SessionState) → Meets (Placed a (length words) ∷ []) s m → StoresSome a words m q → PlacesBy words (Err fault) s q
places_some a words fault s m q placed h =
    let own = Placed a (length words) ∷ Met placed.0 ∷ [] in
    let x = h.2 in (
      x.0 ++ own,
      did_then own x.0 s m q placed.1 x.2,
      inr (a, h.0, h.1, without_both x.0 own ∙ ap (λ (l : List Act). l ++ Placed a (length words) ∷ []) x.1 ∙ sym (stores_both a (take h.0 words) [] (Placed a (length words) ∷ []))),
    )

-- one that wasn't placed
pub places_none : (words : List ℕ) (fault : Fault) (s m : SessionState) → Meets [] s m → PlacesBy words (Err fault) s m
places_none words fault s m met = (Met met.0 ∷ [], met.1, inl refl)

-- so many tries in vain
pub record TriedInVain (n : ℕ) (words : List ℕ) (s m : SessionState) : Type 0 where
  pub own : List Act
  pub did : Does own s m
  pub vain : List (List Act)
  pub all : Every (InVain words) vain
  pub few : length vain ≡ n
  pub rest : without_met own ≡ flat_map (λ acts. acts) vain

pub none_tried : (words : List ℕ) (s : SessionState) → TriedInVain 0 words s s
none_tried words s = record { own = []; did = refl; vain = []; all = tt; few = refl; rest = refl }

pub tried_again : (n : ℕ) (words : List ℕ) (fault : Fault) (s m q : SessionState) → TriedInVain n words s m → PlacesBy words (Err fault) m q → TriedInVain (n + 1) words s q
tried_again n words fault s m q t p = record {
  own = p.0 ++ t.own;
  did = did_then t.own p.0 s m q t.did p.1;
  vain = without_met p.0 ∷ t.vain;
  all = (p.2, t.all);
  few = omega (arith, t.few);
  rest = without_both p.0 t.own ∙ ap (λ (l : List Act). without_met p.0 ++ l) t.rest;
}

pub appended : (n again : ℕ) (words : List ℕ) (result : Result ℕ Fault) (s m q : SessionState) → n ≤ again → TriedInVain n words s m → PlacesBy words result m q → AppendsBy again words result s q
appended n again words (Ok a) s m q most t p = (
  p.0 ++ t.own,
  did_then t.own p.0 s m q t.did p.1,
  t.vain,
  t.all,
  omega (arith, t.few, most),
  without_both p.0 t.own ∙ ap (λ (l : List Act). l ++ without_met t.own) p.2 ∙ ap (λ (l : List Act). stores_from a words (Placed a (length words) ∷ []) ++ l) t.rest,
)
appended n again words (Err fault) s m q most t p = (
  p.0 ++ t.own,
  did_then t.own p.0 s m q t.did p.1,
  t.vain,
  t.all,
  omega (arith, t.few, most),
  (without_met p.0, p.2, without_both p.0 t.own ∙ ap (λ (l : List Act). without_met p.0 ++ l) t.rest),
)
