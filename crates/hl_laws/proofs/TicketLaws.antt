-- Lists of actions whose tickets rise: what a look-up, a filter and a front of them have.
use Rattle.std.proofs.Common.{eq-eqb, ◌≡◌, ℕ, zero, suc, ◌+◌, ◌<◌, ◌≤◌, Bool, true, false, cond, not, ◌||◌, is_some, List, [], ◌∷◌, ◌++◌, length, take, drop, map, refl, sym, ap, ◌∙◌, subst, arith, eqb-true, ne_eqb, lt_of_le_of_lt, le_of_lt}
use Rattle.std.specs.Prelude.{◌==◌, Option, Some, None}
use Rattle.std.specs.List.{AllByRecursion, AllPairs, filter, find, list_any}
use Rattle.std.proofs.lemmas.Bool.{eqb-false}
use Rattle.std.proofs.lemmas.List.Elements.{All-from_recursion}
use Rattle.std.proofs.lemmas.List.Kept.{AllPairs-cons}
use Rattle.hl_model.specs.declared.action.Waiting.{Waiting}

-- the action of ticket c, among some
abbrev pub of_ticket : ℕ → List Waiting → Option Waiting
of_ticket c ws = find (λ w. w.ticket == c) ws

-- the tickets rise, from above a
abbrev pub Rising : ℕ → List Waiting → Type 0
Rising a [] = Unit {0}
Rising a (w ∷ ws) = (a < w.ticket) × Rising w.ticket ws

pub Rising-lower : (a b : ℕ) (ws : List Waiting) → a ≤ b → Rising b ws → Rising a ws
Rising-lower a b [] le r = tt
Rising-lower a b (w ∷ ws) le r = (lt_of_le_of_lt le r.0, r.1)

-- one more above all of them
pub Rising-push : (a : ℕ) (ws : List Waiting) (w : Waiting) → Rising a ws → a < w.ticket → AllByRecursion (λ v. v.ticket < w.ticket) ws → Rising a (ws ++ w ∷ [])
Rising-push a [] w r lt below = (lt, tt)
Rising-push a (v ∷ ws) w r lt below = (r.0, Rising-push v.ticket ws w r.1 below.0 below.1)

-- what is left behind some of them is above
pub Rising-rest : (a m : ℕ) (ws : List Waiting) (w : Waiting) (vs : List Waiting) → Rising a ws → drop m ws ≡ w ∷ vs → a < w.ticket
Rising-rest a zero [] w vs r h = cc
Rising-rest a zero (x ∷ ws) w vs r h = let same : x ≡ w = cc in subst (λ (y : Waiting). a < y.ticket) same r.0
Rising-rest a (suc m) [] w vs r h = cc
Rising-rest a (suc m) (x ∷ ws) w vs r h = omega (arith, r.0, Rising-rest x.ticket m ws w vs r.1 h)

-- and none before it has its ticket
pub front-new : (a m : ℕ) (ws : List Waiting) (w : Waiting) (vs : List Waiting) → Rising a ws → drop m ws ≡ w ∷ vs → list_any (λ v. v.ticket == w.ticket) (take m ws) ≡ false
front-new a zero ws w vs r h = refl
front-new a (suc m) [] w vs r h = cc
front-new a (suc m) (x ∷ ws) w vs r h =
    let lower : x.ticket < w.ticket = Rising-rest x.ticket m ws w vs r.1 h in
    rw (ne_eqb x.ticket w.ticket (λ e. omega (arith, lower, e))) (front-new x.ticket m ws w vs r.1 h)

pub Rising-take : (m a : ℕ) (ws : List Waiting) → Rising a ws → Rising a (take m ws)
Rising-take zero a ws r = tt
Rising-take (suc m) a [] r = tt
Rising-take (suc m) a (w ∷ ws) r = (r.0, Rising-take m w.ticket ws r.1)

rising_cons : (a : ℕ) (w : Waiting) (ws : List Waiting) (b : Bool) → a < w.ticket → Rising w.ticket ws → Rising a (cond b (w ∷ ws) ws)
rising_cons a w ws true lt r = (lt, r)
rising_cons a w ws false lt r = Rising-lower a w.ticket ws (le_of_lt lt) r

pub Rising-filter : (p : Waiting → Bool) (a : ℕ) (ws : List Waiting) → Rising a ws → Rising a (filter p ws)
Rising-filter p a [] r = tt
Rising-filter p a (w ∷ ws) r = rising_cons a w (filter p ws) (p w) r.0 (Rising-filter p w.ticket ws r.1)

-- none of those from above a has ticket a or a lower one
pub filter-above : (c a : ℕ) (ws : List Waiting) → c ≤ a → Rising a ws → filter (λ w. not (c == w.ticket)) ws ≡ ws
filter-above c a [] le r = refl
filter-above c a (w ∷ ws) le r =
    rw (ne_eqb c w.ticket (λ e. omega (arith, r.0, e))) (ap (λ l. w ∷ l) (filter-above c w.ticket ws (omega (arith, r.0)) r.1))

removed_cons : (c a : ℕ) (w : Waiting) (ws : List Waiting) → Rising a (w ∷ ws) → (is_some (of_ticket c ws) ≡ true → length (filter (λ v. not (c == v.ticket)) ws) + 1 ≡ length ws) → (b : Bool) → (w.ticket == c) ≡ b → is_some (of_ticket c (w ∷ ws)) ≡ true → length (filter (λ v. not (c == v.ticket)) (w ∷ ws)) + 1 ≡ length (w ∷ ws)
removed_cons c a w ws r later true e h =
    let same : w.ticket ≡ c = eqb-true w.ticket c e in
    let here : (c == w.ticket) ≡ true = eq-eqb c w.ticket (sym same) in
    rw (here, filter-above c w.ticket ws (omega arith) r.1) (omega arith)
removed_cons c a w ws r later false e h =
    let there : (c == w.ticket) ≡ false = ne_eqb c w.ticket (λ same. eqb-false w.ticket c e (sym same)) in
    let rest : is_some (of_ticket c ws) ≡ true = rw e at h in
    rw there (omega (arith, later rest))

-- where one has ticket c, all but one have another
pub length-removed : (c a : ℕ) (ws : List Waiting) → Rising a ws → is_some (of_ticket c ws) ≡ true → length (filter (λ w. not (c == w.ticket)) ws) + 1 ≡ length ws
length-removed c a [] r h = cc
length-removed c a (w ∷ ws) r h = removed_cons c a w ws r (length-removed c w.ticket ws r.1) (w.ticket == c) refl h

cond_none : (b : Bool) → cond {A = Option Waiting} b None None ≡ None
cond_none true = refl
cond_none false = refl

found_cons : (P : ℕ → Bool) (c : ℕ) (w : Waiting) (ws : List Waiting) → of_ticket c (filter (λ v. P v.ticket) ws) ≡ cond (P c) (of_ticket c ws) None → (b d : Bool) → (w.ticket == c) ≡ b → P w.ticket ≡ d → of_ticket c (filter (λ v. P v.ticket) (w ∷ ws)) ≡ cond (P c) (of_ticket c (w ∷ ws)) None
found_cons P c w ws later true true e d =
    let passes : P c ≡ true = ap P (sym (eqb-true w.ticket c e)) ∙ d in
    rw (d, e, passes) refl
found_cons P c w ws later true false e d =
    let fails : P c ≡ false = ap P (sym (eqb-true w.ticket c e)) ∙ d in
    rw d (later ∙ rw fails refl)
found_cons P c w ws later false true e d = rw (d, e) later
found_cons P c w ws later false false e d = rw (d, e) later

-- a look-up among those whose tickets pass
pub of_ticket-filter : (P : ℕ → Bool) (c : ℕ) (ws : List Waiting) → of_ticket c (filter (λ w. P w.ticket) ws) ≡ cond (P c) (of_ticket c ws) None
of_ticket-filter P c [] = sym (cond_none (P c))
of_ticket-filter P c (w ∷ ws) = found_cons P c w ws (of_ticket-filter P c ws) (w.ticket == c) (P w.ticket) refl refl

found_front : {X : Type 0} (p : X → Bool) (x : X) (m : ℕ) (xs : List X) → find p (take m xs) ≡ cond (list_any p (take m xs)) (find p xs) None → (b : Bool) → p x ≡ b → find p (take (suc m) (x ∷ xs)) ≡ cond (list_any p (take (suc m) (x ∷ xs))) (find p (x ∷ xs)) None
found_front p x m xs later true e = rw e refl
found_front p x m xs later false e = rw e later

-- a look-up among the first m finds what one among all does, or nothing
pub find-take : {X : Type 0} (p : X → Bool) (m : ℕ) (xs : List X) → find p (take m xs) ≡ cond (list_any p (take m xs)) (find p xs) None
find-take p zero xs = refl
find-take p (suc m) [] = refl
find-take p (suc m) (x ∷ xs) = found_front p x m xs (find-take p m xs) (p x) refl

-- what passes among the first passes among more
pub any-front : {X : Type 0} (p : X → Bool) (m n : ℕ) (xs ys : List X) → m ≤ n → list_any p (take m xs) ≡ true → list_any p (take n (xs ++ ys)) ≡ true
any-front p zero n xs ys le h = cc
any-front p (suc m) n [] ys le h = cc
any-front p (suc m) zero (x ∷ xs) ys le h = absurd (omega (arith, le))
any-front p (suc m) (suc n) (x ∷ xs) ys le h = by_test (p x) (any-front p m n xs ys (omega (arith, le))) h
  where
    by_test : (b : Bool) → (list_any p (take m xs) ≡ true → list_any p (take n (xs ++ ys)) ≡ true) → (b || list_any p (take m xs)) ≡ true → (b || list_any p (take n (xs ++ ys))) ≡ true
    by_test true later k = refl
    by_test false later k = later k

-- some element passes exactly where a look-up finds one
pub found-any : {X : Type 0} (p : X → Bool) (xs : List X) → list_any p xs ≡ is_some (find p xs)
found-any p [] = refl
found-any p (x ∷ xs) = elim (p x) as (λ b. (b || list_any p xs) ≡ is_some (cond b (Some x) (find p xs))) [ true ↦ refl | false ↦ found-any p xs ]

-- each ticket is below all later ones
pub tickets-rising : (a : ℕ) (ws : List Waiting) → Rising a ws → AllPairs (λ earlier later. earlier < later) (map (λ w. w.ticket) ws)
tickets-rising a [] r = λ i j d lt within. absurd (omega (arith, within))
tickets-rising a (w ∷ ws) r =
    AllPairs-cons (λ earlier later. earlier < later) w.ticket (map (λ v. v.ticket) ws)
    (All-from_recursion (λ later. w.ticket < later) (map (λ v. v.ticket) ws) (above w.ticket ws r.1)) (tickets-rising w.ticket ws r.1)
  where
    above : (b : ℕ) (vs : List Waiting) → Rising b vs → AllByRecursion (λ later. b < later) (map (λ v. v.ticket) vs)
    above b [] k = tt
    above b (v ∷ vs) k = (k.0, above b vs (Rising-lower b v.ticket vs (le_of_lt k.0) k.1))
