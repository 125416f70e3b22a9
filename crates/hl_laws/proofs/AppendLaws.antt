-- Laws of the ways in which the definitions look back, for two lists in a row, and for functions that agree.
use Rattle.std.proofs.Common.{◌≡◌, ℕ, suc, ◌+◌, ◌<◌, ◌≤◌, Bool, true, false, cond, ◌||◌, ltb, List, [], ◌∷◌, ◌++◌, length, find, take, drop, refl, sym, ap, ap₂, ◌∙◌, arith, append_assoc, append-nil, inl, inr, ◌⊎◌}
use Rattle.std.specs.Prelude.{Option, Some, unwrap_or}
use Rattle.std.specs.List.{list_any}
use Rattle.std.proofs.lemmas.Bool.{lt-ltb, le-ltb, cases_lt}
use Rattle.std.proofs.lemmas.List.{length-take-le, take-append-drop}
use Rattle.std.proofs.lemmas.List.Folds.{list_any-append}
use Rattle.std.proofs.Math.Seq.{drop-append-add, take-append-add}
use Rattle.hl_model.specs.Lists.{until_last, gather_after, gather, last_given}
use Rattle.hl_model.proofs.ListLaws.{until_last-le, gather-push, by_pushing}

none_core : (any x : Bool) (m : ℕ) → (x || any) ≡ false → cond any (m + 1) (cond x 1 0) ≡ 0
none_core any true m h = cc
none_core true false m h = cc
none_core false false m h = refl

-- where none passes there is no last one
pub until_last-none : {X : Type 0} (p : X → Bool) (xs : List X) → list_any p xs ≡ false → until_last p xs ≡ 0
unfolding until_last
until_last-none p [] h = refl
until_last-none p (x ∷ xs) h = none_core (list_any p xs) (p x) (until_last p xs) h

some_core : (any x : Bool) (m : ℕ) → (x || any) ≡ true → 1 ≤ cond any (m + 1) (cond x 1 0)
some_core true x m h = omega arith
some_core false true m h = omega arith
some_core false false m h = cc

-- where one passes there is
pub until_last-some : {X : Type 0} (p : X → Bool) (xs : List X) → list_any p xs ≡ true → 1 ≤ until_last p xs
unfolding until_last
until_last-some p [] h = cc
until_last-some p (x ∷ xs) h = some_core (list_any p xs) (p x) (until_last p xs) h

first_core : (b : Bool) (m : ℕ) → (b ≡ false → m ≡ 0) → m ≡ cond b (0 + m) 0
first_core true m h = omega arith
first_core false m h = h refl

place_core : (early late x : Bool) (n m k : ℕ) → cond (early || late) (cond late (n + m) k + 1) (cond x 1 0) ≡ cond late (suc n + m) (cond early (k + 1) (cond x 1 0))
place_core true true x n m k = omega arith
place_core false true x n m k = omega arith
place_core true false x n m k = refl
place_core false false x n m k = refl

-- the last place: in the second list where one passes there, else in the first
pub until_last-append : {X : Type 0} (p : X → Bool) (xs ys : List X) → until_last p (xs ++ ys) ≡ cond (list_any p ys) (length xs + until_last p ys) (until_last p xs)
unfolding until_last
until_last-append p [] ys = first_core (list_any p ys) (until_last p ys) (until_last-none p ys)
until_last-append p (x ∷ xs) ys =
    rw (list_any-append p xs ys, until_last-append p xs ys) (place_core (list_any p xs) (list_any p ys) (p x) (length xs) (until_last p ys) (until_last p xs))

-- the last value given
pub last_given-append : {X Y : Type 0} (f : X → Option Y) (d : Y) (xs ys : List X) → last_given f d (xs ++ ys) ≡ last_given f (last_given f d xs) ys
unfolding last_given
last_given-append f d [] ys = refl
last_given-append f d (x ∷ xs) ys = last_given-append f (unwrap_or (f x) d) xs ys

gather-nil : {X Y : Type 0} (f : List X → X → List Y) → gather f [] ≡ []
unfolding gather gather_after
gather-nil f = refl

-- what each element gives
pub gather-append : {X Y : Type 0} (f : List X → X → List Y) (xs ys : List X) → gather f (xs ++ ys) ≡ gather f xs ++ gather (λ before y. f (xs ++ before) y) ys
gather-append {X} {Y} f xs = by_pushing (λ ys. gather f (xs ++ ys) ≡ gather f xs ++ gather behind ys) none step
  where
    behind : List X → X → List Y
    behind before y = f (xs ++ before) y

    none : gather f (xs ++ []) ≡ gather f xs ++ gather behind []
    none =
        ap (gather f) (append-nil xs) ∙ sym (ap (λ l. gather f xs ++ l) (gather-nil behind) ∙ append-nil (gather f xs))

    step : (ys : List X) (y : X) → gather f (xs ++ ys) ≡ gather f xs ++ gather behind ys → gather f (xs ++ (ys ++ y ∷ [])) ≡ gather f xs ++ gather behind (ys ++ y ∷ [])
    step ys y before =
        ap (gather f) (sym (append_assoc xs ys (y ∷ []))) ∙ gather-push f (xs ++ ys) y
        ∙ ap (λ l. l ++ f (xs ++ ys) y) before
        ∙ append_assoc (gather f xs) (gather behind ys) (f (xs ++ ys) y)
        ∙ ap (λ l. gather f xs ++ l) (sym (gather-push behind ys y))

-- the same of each element is the same of all
pub gather-same : {X Y : Type 0} (f g : List X → X → List Y) → ((before : List X) (x : X) → f before x ≡ g before x) → (xs : List X) → gather f xs ≡ gather g xs
gather-same f g h = by_pushing (λ xs. gather f xs ≡ gather g xs) (gather-nil f ∙ sym (gather-nil g))
    (λ xs x before. gather-push f xs x ∙ ap₂ (λ k l. k ++ l) before (h xs x) ∙ sym (gather-push g xs x))

either_core : (a b c d : Bool) → ((a || b) || (c || d)) ≡ ((a || c) || (b || d))
either_core true b c d = refl
either_core false true true d = refl
either_core false true false d = refl
either_core false false c d = refl

-- one of two tests passes
pub list_any-either : {X : Type 0} (p q : X → Bool) (xs : List X) → list_any (λ x. p x || q x) xs ≡ (list_any p xs || list_any q xs)
list_any-either p q [] = refl
list_any-either p q (x ∷ xs) =
    ap (λ b. (p x || q x) || b) (list_any-either p q xs) ∙ either_core (p x) (q x) (list_any p xs) (list_any q xs)

pub ltb-add : (n v u : ℕ) → ltb (n + v) (n + u) ≡ ltb v u
ltb-add n v u = by_order (cases_lt v u)
  where
    by_order : ((v < u) ⊎ (u ≤ v)) → ltb (n + v) (n + u) ≡ ltb v u
    by_order (inl lt) = lt-ltb (n + v) (n + u) (omega arith) ∙ sym (lt-ltb v u lt)
    by_order (inr ge) = le-ltb (n + v) (n + u) (omega arith) ∙ sym (le-ltb v u ge)

later_core : (go back : Bool) (n u v m k : ℕ) → m ≤ n → k ≤ n → (go ≡ true → 1 ≤ u) → (go ≡ false → u ≡ 0) → (back ≡ true → 1 ≤ v) → (back ≡ false → v ≡ 0) → ltb (cond back (n + v) k) (cond go (n + u) m) ≡ cond (go || back) (ltb v u) (ltb k m)
later_core true true n u v m k lm lk gt gf bt bf = ltb-add n v u
later_core true false n u v m k lm lk gt gf bt bf =
    lt-ltb k (n + u) (omega (arith, gt refl, lk)) ∙ sym (lt-ltb v u (omega (arith, gt refl, bf refl)))
later_core false true n u v m k lm lk gt gf bt bf =
    le-ltb (n + v) m (omega (arith, bt refl, lm)) ∙ sym (le-ltb v u (omega (arith, gf refl)))
later_core false false n u v m k lm lk gt gf bt bf = refl

-- whether the last that passes one test is behind the last that passes another: the second list tells where one of its
-- elements passes either, else the first
pub later-append : {X : Type 0} (go back : X → Bool) (xs ys : List X) → ltb (until_last back (xs ++ ys)) (until_last go (xs ++ ys)) ≡ cond (list_any (λ x. go x || back x) ys) (ltb (until_last back ys) (until_last go ys)) (ltb (until_last back xs) (until_last go xs))
later-append go back xs ys =
    ap₂ (λ b g. ltb b g) (until_last-append back xs ys) (until_last-append go xs ys)
    ∙ later_core (list_any go ys) (list_any back ys) (length xs) (until_last go ys) (until_last back ys) (until_last go xs) (until_last back xs) (until_last-le go xs) (until_last-le back xs) (until_last-some go ys) (until_last-none go ys) (until_last-some back ys) (until_last-none back ys)
    ∙ ap (λ b. cond b (ltb (until_last back ys) (until_last go ys)) (ltb (until_last back xs) (until_last go xs))) (sym (list_any-either go back ys))

find_core : {X : Type 0} (x : X) (b c : Bool) (k l : Option X) → b ≡ c → k ≡ l → cond b (Some x) k ≡ cond c (Some x) l
find_core x b c k l e f = rw (e, f) refl

-- the same test finds the same
pub find-same : {X : Type 0} (p q : X → Bool) (xs : List X) → ((x : X) → p x ≡ q x) → find p xs ≡ find q xs
find-same p q [] h = refl
find-same p q (x ∷ xs) h = find_core x (p x) (q x) (find p xs) (find q xs) (h x) (find-same p q xs h)

-- two lists in a row, parted within the first
parted : {X : Type 0} (m : ℕ) (xs ys : List X) → xs ++ ys ≡ take m xs ++ (drop m xs ++ ys)
parted m xs ys = ap (λ l. l ++ ys) (sym (take-append-drop m xs)) ∙ append_assoc (take m xs) (drop m xs) ys

-- what is behind m and n elements
pub drop_both : {X : Type 0} (m n : ℕ) (xs ys : List X) → m ≤ length xs → drop (m + n) (xs ++ ys) ≡ drop n (drop m xs ++ ys)
drop_both m n xs ys le =
    ap₂ (λ k l. drop (k + n) l) (sym (length-take-le m xs le)) (parted m xs ys)
    ∙ drop-append-add (take m xs) (drop m xs ++ ys) n

-- and these themselves
pub take_both : {X : Type 0} (m n : ℕ) (xs ys : List X) → m ≤ length xs → take (m + n) (xs ++ ys) ≡ take m xs ++ take n (drop m xs ++ ys)
take_both m n xs ys le =
    ap₂ (λ k l. take (k + n) l) (sym (length-take-le m xs le)) (parted m xs ys)
    ∙ take-append-add (take m xs) (drop m xs ++ ys) n
