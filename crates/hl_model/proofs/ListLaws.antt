-- Laws of the ways in which the definitions look back, each for one element more at the end.
use Rattle.std.proofs.Common.{◌≡◌, ℕ, suc, ◌+◌, ◌<◌, ◌≤◌, Bool, true, false, cond, ◌||◌, min, List, [], ◌∷◌, ◌++◌, length, take, drop, refl, sym, ap, ◌∙◌, arith, append_assoc, append-nil, zero-add, le_trans, subst, ◌⊎◌, inl, inr, max, le_refl, zero, ap₂, add-zero}
use Rattle.std.specs.List.{list_any, count_by, AllByRecursion, filter, find, range_with_len}
use Rattle.std.proofs.lemmas.List.Sums.{sum_by-append}
use Rattle.hl_model.specs.Lists.{until_last, gather_after, gather, least_or, greatest, last_given, unroll_after, unroll, greatest_below}
use Rattle.std.proofs.lemmas.Bool.{cases_lt, cases_eq, both_ways}
use Rattle.std.specs.Prelude.{Option, Some, unwrap_or, None}

-- a test of each element
pub list_any-push : {X : Type 0} (p : X → Bool) (xs : List X) (y : X) → list_any p (xs ++ y ∷ []) ≡ (list_any p xs || p y)
list_any-push p [] y = elim (p y) as (λ b. (b || false) ≡ (false || b)) [ true ↦ refl | false ↦ refl ]
list_any-push p (x ∷ xs) y = elim (p x) as (λ b. (b || list_any p (xs ++ y ∷ [])) ≡ ((b || list_any p xs) || p y)) [ true ↦ refl | false ↦ list_any-push p xs y ]

-- how many pass
pub count_by-push : {X : Type 0} (p : X → Bool) (xs : List X) (y : X) → count_by p (xs ++ y ∷ []) ≡ count_by p xs + cond (p y) 1 0
count_by-push p xs y =
    sum_by-append (λ x. cond (p x) 1 0) xs (y ∷ []) ∙ ap (λ n. count_by p xs + n) (zero-add (cond (p y) 1 0))

-- one counts where it passes
pub one_where : (b : Bool) → b ≡ true → cond {A = ℕ} b 1 0 ≡ 1
one_where true h = refl
one_where false h = cc

pub none_where : (b : Bool) → b ≡ false → cond {A = ℕ} b 1 0 ≡ 0
none_where true h = cc
none_where false h = refl

place_core : (any y x : Bool) (n m : ℕ) → cond (any || y) (cond y (n + 1) m + 1) (cond x 1 0) ≡ cond y (suc n + 1) (cond any (m + 1) (cond x 1 0))
place_core true true x n m = omega arith
place_core true false x n m = refl
place_core false true x n m = omega arith
place_core false false x n m = refl

-- the last place
pub until_last-push : {X : Type 0} (p : X → Bool) (xs : List X) (y : X) → until_last p (xs ++ y ∷ []) ≡ cond (p y) (length xs + 1) (until_last p xs)
unfolding until_last
until_last-push p [] y = refl
until_last-push p (x ∷ xs) y =
    rw (list_any-push p xs y, until_last-push p xs y) (place_core (list_any p xs) (p y) (p x) (length xs) (until_last p xs))

within_core : (any x : Bool) (n m : ℕ) → m ≤ n → cond any (m + 1) (cond x 1 0) ≤ suc n
within_core true x n m h = omega arith
within_core false true n m h = omega arith
within_core false false n m h = omega arith

-- the last place is within the list
pub until_last-le : {X : Type 0} (p : X → Bool) (xs : List X) → until_last p xs ≤ length xs
unfolding until_last
until_last-le p [] = omega arith
until_last-le p (x ∷ xs) = within_core (list_any p xs) (p x) (length xs) (until_last p xs) (until_last-le p xs)

gather_after-push : {X Y : Type 0} (f : List X → X → List Y) (before xs : List X) (y : X) → gather_after f before (xs ++ y ∷ []) ≡ gather_after f before xs ++ f (before ++ xs) y
unfolding gather_after
gather_after-push f before [] y = append-nil (f before y) ∙ sym (ap (λ b. f b y) (append-nil before))
gather_after-push f before (x ∷ xs) y =
    ap (λ l. f before x ++ l) (gather_after-push f (before ++ x ∷ []) xs y)
    ∙ sym (append_assoc (f before x) (gather_after f (before ++ x ∷ []) xs) (f ((before ++ x ∷ []) ++ xs) y))
    ∙ ap (λ b. (f before x ++ gather_after f (before ++ x ∷ []) xs) ++ f b y) (append_assoc before (x ∷ []) xs)

-- what each element gives
pub gather-push : {X Y : Type 0} (f : List X → X → List Y) (xs : List X) (y : X) → gather f (xs ++ y ∷ []) ≡ gather f xs ++ f xs y
unfolding gather
gather-push f xs y = gather_after-push f [] xs y

-- the least is below d where all are, and d is
pub least_or-above : (c d : ℕ) (xs : List ℕ) → c < d → AllByRecursion (λ x. c < x) xs → c < least_or d xs
unfolding least_or
least_or-above c d [] h a = h
least_or-above c d (x ∷ xs) h a = let later : c < least_or x xs = least_or-above c x xs a.0 a.1 in let first : c < x = a.0 in omega arith

-- at most each of a list: smaller still
pub below_each : (m n : ℕ) (xs : List ℕ) → m ≤ n → AllByRecursion (λ x. n ≤ x) xs → AllByRecursion (λ x. m ≤ x) xs
below_each m n [] h a = tt
below_each m n (x ∷ xs) h a = (le_trans h a.0, below_each m n xs h a.1)

-- the least is at most each
pub least_or-le : (d : ℕ) (xs : List ℕ) → AllByRecursion (λ x. least_or d xs ≤ x) xs
unfolding least_or
least_or-le d [] = tt
least_or-le d (x ∷ xs) = (omega arith, below_each (min x (least_or x xs)) (least_or x xs) xs (omega arith) (least_or-le x xs))

-- the least is at most d where all are
pub least_or-default : (d : ℕ) (xs : List ℕ) → AllByRecursion (λ x. x ≤ d) xs → least_or d xs ≤ d
unfolding least_or
least_or-default d [] a = omega arith
least_or-default d (x ∷ xs) a = let first : x ≤ d = a.0 in omega arith

-- what holds of no elements and is kept by one more at the end holds of every list
pub by_pushing : {X : Type 0} (P : List X → Type 0) → P [] → ((xs : List X) (y : X) → P xs → P (xs ++ y ∷ [])) → (xs : List X) → P xs
by_pushing {X} P nil push xs = from [] nil xs
  where
    from : (before : List X) → P before → (rest : List X) → P (before ++ rest)
    from before h [] = subst P (sym (append-nil before)) h
    from before h (x ∷ rest) = subst P (append_assoc before (x ∷ []) rest) (from (before ++ x ∷ []) (push before x h) rest)

-- the greatest of one element more
pub greatest-push : {X : Type 0} (f : X → ℕ) (xs : List X) (y : X) → greatest f (xs ++ y ∷ []) ≡ max (greatest f xs) (f y)
unfolding greatest
greatest-push f [] y = omega arith
greatest-push f (x ∷ xs) y = omega (arith, greatest-push f xs y)

-- the greatest of two lists in a row
pub greatest-append : {X : Type 0} (f : X → ℕ) (xs ys : List X) → greatest f (xs ++ ys) ≡ max (greatest f xs) (greatest f ys)
unfolding greatest
greatest-append f [] ys = omega arith
greatest-append f (x ∷ xs) ys = omega (arith, greatest-append f xs ys)

greater_has : (P : ℕ → Type 0) (m n : ℕ) → P m → P n → ((m < n) ⊎ (n ≤ m)) → P (max m n)
greater_has P m n a b (inl lt) = let is : max m n ≡ n = omega (arith, lt) in subst P (sym is) b
greater_has P m n a b (inr ge) = let is : max m n ≡ m = omega (arith, ge) in subst P (sym is) a

-- what holds of two numbers holds of the greater
pub max-has : (P : ℕ → Type 0) (m n : ℕ) → P m → P n → P (max m n)
max-has P m n a b = greater_has P m n a b (cases_lt m n)

-- what holds of 0 and of each number holds of the greatest
pub greatest-has : {X : Type 0} (P : ℕ → Type 0) (f : X → ℕ) (xs : List X) → P 0 → AllByRecursion (λ x. P (f x)) xs → P (greatest f xs)
unfolding greatest
greatest-has P f [] none a = none
greatest-has P f (x ∷ xs) none a = max-has P (f x) (greatest f xs) a.0 (greatest-has P f xs none a.1)

-- the greatest is at most what each is at most
pub greatest-le : {X : Type 0} (f : X → ℕ) (m : ℕ) (xs : List X) → AllByRecursion (λ x. f x ≤ m) xs → greatest f xs ≤ m
greatest-le f m xs a = greatest-has (λ n. n ≤ m) f xs (omega arith) a

-- the greatest of numbers that are each at most others
pub greatest-each_le : {X : Type 0} (f g : X → ℕ) (xs : List X) → ((x : X) → f x ≤ g x) → greatest f xs ≤ greatest g xs
unfolding greatest
greatest-each_le f g [] h = omega arith
greatest-each_le f g (x ∷ xs) h = omega (arith, h x, greatest-each_le f g xs h)

-- the greatest of numbers that are each the greater of two
pub greatest-max : {X : Type 0} (f g h : X → ℕ) (xs : List X) → ((x : X) → f x ≡ max (g x) (h x)) → greatest f xs ≡ max (greatest g xs) (greatest h xs)
unfolding greatest
greatest-max f g h [] e = omega arith
greatest-max f g h (x ∷ xs) e = omega (arith, e x, greatest-max f g h xs e)

-- the greatest of the same numbers
pub greatest-same : {X : Type 0} (f g : X → ℕ) (xs : List X) → ((x : X) → f x ≡ g x) → greatest f xs ≡ greatest g xs
unfolding greatest
greatest-same f g [] h = refl
greatest-same f g (x ∷ xs) h = omega (arith, h x, greatest-same f g xs h)

-- the last value given, with one element more
pub last_given-push : {X Y : Type 0} (f : X → Option Y) (d : Y) (xs : List X) (y : X) → last_given f d (xs ++ y ∷ []) ≡ unwrap_or (f y) (last_given f d xs)
unfolding last_given
last_given-push f d [] y = refl
last_given-push f d (x ∷ xs) y = last_given-push f (unwrap_or (f x) d) xs y

-- what holds of each element of two lists holds of each of both in a row
pub all-append : {X : Type 0} (P : X → Type 0) (xs ys : List X) → AllByRecursion P xs → AllByRecursion P ys → AllByRecursion P (xs ++ ys)
all-append P [] ys a b = b
all-append P (x ∷ xs) ys a b = (a.0, all-append P xs ys a.1 b)

-- what follows from what holds of each element
pub all-follows : {X : Type 0} (P Q : X → Type 0) (xs : List X) → ((x : X) → P x → Q x) → AllByRecursion P xs → AllByRecursion Q xs
all-follows P Q [] h a = tt
all-follows P Q (x ∷ xs) h a = (h x a.0, all-follows P Q xs h a.1)

all_found_cons : {X : Type 0} (P : X → Type 0) (x y : X) (rest : Option X) (b : Bool) → P x → (rest ≡ Some y → P y) → cond b (Some x) rest ≡ Some y → P y
all_found_cons P x y rest true h later found = let same : x ≡ y = cc in subst P same h
all_found_cons P x y rest false h later found = later found

-- what holds of each element holds of the one that is found
pub all-found : {X : Type 0} (P : X → Type 0) (p : X → Bool) (xs : List X) (y : X) → AllByRecursion P xs → find p xs ≡ Some y → P y
all-found P p [] y a found = cc
all-found P p (x ∷ xs) y a found = all_found_cons P x y (find p xs) (p x) a.0 (all-found P p xs y a.1) found

-- what no element makes fall never falls
pub never_falls : {X : Type 0} (q : List X → ℕ) → ((xs : List X) (y : X) → q xs ≤ q (xs ++ y ∷ [])) → (xs ys : List X) → q xs ≤ q (xs ++ ys)
never_falls {X} q grows xs = by_pushing (λ ys. q xs ≤ q (xs ++ ys)) (subst (λ (l : List X). q xs ≤ q l) (sym (append-nil xs)) (le_refl (q xs)))
    (λ ys y h. subst (λ (l : List X). q xs ≤ q l) (append_assoc xs ys (y ∷ [])) (le_trans h (grows (xs ++ ys) y)))

unroll_after-push : {X Y : Type 0} (f : List X → List Y → X → List Y) (before : List X) (given : List Y) (xs : List X) (y : X) → unroll_after f before given (xs ++ y ∷ []) ≡ unroll_after f before given xs ++ f (before ++ xs) (given ++ unroll_after f before given xs) y
unfolding unroll_after
unroll_after-push f before given [] y =
    append-nil (f before given y) ∙ sym (ap₂ (λ b g. f b g y) (append-nil before) (append-nil given))
unroll_after-push f before given (x ∷ xs) y =
    ap (λ l. f before given x ++ l) (unroll_after-push f (before ++ x ∷ []) (given ++ f before given x) xs y)
    ∙ sym (append_assoc (f before given x) (unroll_after f (before ++ x ∷ []) (given ++ f before given x) xs) (f ((before ++ x ∷ []) ++ xs) ((given ++ f before given x) ++ unroll_after f (before ++ x ∷ []) (given ++ f before given x) xs) y))
    ∙ ap₂ (λ b g. (f before given x ++ unroll_after f (before ++ x ∷ []) (given ++ f before given x) xs) ++ f b g y) (append_assoc before (x ∷ []) xs) (append_assoc given (f before given x) (unroll_after f (before ++ x ∷ []) (given ++ f before given x) xs))

-- what each element gives, told what those before it gave
pub unroll-push : {X Y : Type 0} (f : List X → List Y → X → List Y) (xs : List X) (y : X) → unroll f (xs ++ y ∷ []) ≡ unroll f xs ++ f xs (unroll f xs) y
unfolding unroll
unroll-push f xs y = unroll_after-push f [] [] xs y

found_here : (p : ℕ → Bool) (n k : ℕ) (b : Bool) → p n ≡ b → (greatest_below p n ≡ Some k → (p k ≡ true) × (k < n)) → cond b (Some n) (greatest_below p n) ≡ Some k → (p k ≡ true) × (k < suc n)
found_here p n k true e later h = let same : n ≡ k = cc in (ap p (sym same) ∙ e, omega arith)
found_here p n k false e later h = let old : (p k ≡ true) × (k < n) = later h in (old.0, omega (arith, old.1))

-- the greatest number below n that passes does so, and is below n
pub greatest_below-passes : (p : ℕ → Bool) (n k : ℕ) → greatest_below p n ≡ Some k → (p k ≡ true) × (k < n)
unfolding greatest_below
greatest_below-passes p zero k h = cc
greatest_below-passes p (suc n) k h = found_here p n k (p n) refl (greatest_below-passes p n k) h

most_here : (p : ℕ → Bool) (n k m : ℕ) (b : Bool) → p n ≡ b → (greatest_below p n ≡ Some k → m < n → m ≤ k) → cond b (Some n) (greatest_below p n) ≡ Some k → m < suc n → p m ≡ true → ((m ≡ n) ⊎ (m ≡ n → ⊥)) → m ≤ k
most_here p n k m true e later h lt t order = let same : n ≡ k = cc in omega arith
most_here p n k m false e later h lt t (inl same) = absurd (both_ways (p m) (ap p same ∙ e) t)
most_here p n k m false e later h lt t (inr ne) = later h (omega (arith, ne))

-- what passes below n is at most it
pub greatest_below-most : (p : ℕ → Bool) (n k m : ℕ) → greatest_below p n ≡ Some k → m < n → p m ≡ true → m ≤ k
unfolding greatest_below
greatest_below-most p zero k m h lt t = cc
greatest_below-most p (suc n) k m h lt t = most_here p n k m (p n) refl (λ g l. greatest_below-most p n k m g l t) h lt t (cases_eq m n)

nothing_here : (p : ℕ → Bool) (n m : ℕ) (b : Bool) → p n ≡ b → (greatest_below p n ≡ None → m < n → p m ≡ false) → cond b (Some n) (greatest_below p n) ≡ None → m < suc n → ((m ≡ n) ⊎ (m ≡ n → ⊥)) → p m ≡ false
nothing_here p n m true e later h lt order = cc
nothing_here p n m false e later h lt (inl same) = ap p same ∙ e
nothing_here p n m false e later h lt (inr ne) = later h (omega (arith, ne))

-- where there is none, nothing below n passes
pub greatest_below-none : (p : ℕ → Bool) (n m : ℕ) → greatest_below p n ≡ None → m < n → p m ≡ false
unfolding greatest_below
greatest_below-none p zero m h lt = absurd (omega arith)
greatest_below-none p (suc n) m h lt = nothing_here p n m (p n) refl (λ g l. greatest_below-none p n m g l) h lt (cases_eq m n)

-- where nothing below n passes, there is none
pub greatest_below-nothing : (p : ℕ → Bool) (n : ℕ) → ((m : ℕ) → m < n → p m ≡ false) → greatest_below p n ≡ None
greatest_below-nothing p n each = by_result (greatest_below p n) refl
  where
    by_result : (o : Option ℕ) → greatest_below p n ≡ o → greatest_below p n ≡ None
    by_result None h = h
    by_result (Some k) h =
        let found : (p k ≡ true) × (k < n) = greatest_below-passes p n k h in
        absurd (both_ways (p k) (each k found.1) found.0)

-- a number below n that passes, where none between does, is the greatest
pub greatest_below-is : (p : ℕ → Bool) (n k : ℕ) → k < n → p k ≡ true → ((m : ℕ) → k < m → m < n → p m ≡ false) → greatest_below p n ≡ Some k
greatest_below-is p n k lt t between = by_result (greatest_below p n) refl
  where
    by_order : (m : ℕ) → greatest_below p n ≡ Some m → ((m ≡ k) ⊎ (m ≡ k → ⊥)) → greatest_below p n ≡ Some k
    by_order m h (inl same) = h ∙ ap Some same
    by_order m h (inr ne) =
        let found : (p m ≡ true) × (m < n) = greatest_below-passes p n m h in
        absurd (both_ways (p m) (between m (omega (arith, ne, greatest_below-most p n m k h lt t)) found.1) found.0)

    by_result : (o : Option ℕ) → greatest_below p n ≡ o → greatest_below p n ≡ Some k
    by_result None h = absurd (both_ways (p k) (greatest_below-none p n k h lt) t)
    by_result (Some m) h = by_order m h (cases_eq m k)

found_first : (test : ℕ → Bool) (a n q : ℕ) (b : Bool) → test a ≡ b → (find test (range_with_len (a + 1) n) ≡ Some q → (test q ≡ true) × (a + 1 ≤ q) × (q < (a + 1) + n)) → cond b (Some a) (find test (range_with_len (a + 1) n)) ≡ Some q → (test q ≡ true) × (a ≤ q) × (q < a + suc n)
found_first test a n q true e later h = let same : a ≡ q = cc in (ap test (sym same) ∙ e, omega arith, omega arith)
found_first test a n q false e later h =
    let found : (test q ≡ true) × (a + 1 ≤ q) × (q < (a + 1) + n) = later h in
    (found.0, omega (arith, found.1), omega (arith, found.2))

-- what is found among n numbers from a on passes, and is one of them
pub find-range : (test : ℕ → Bool) (a n q : ℕ) → find test (range_with_len a n) ≡ Some q → (test q ≡ true) × (a ≤ q) × (q < a + n)
find-range test a zero q h = cc
find-range test a (suc n) q h = found_first test a n q (test a) refl (find-range test (a + 1) n q) h

least_first : (test : ℕ → Bool) (a n q m : ℕ) (b : Bool) → test a ≡ b → (find test (range_with_len (a + 1) n) ≡ Some q → a + 1 ≤ m → m < q → test m ≡ false) → cond b (Some a) (find test (range_with_len (a + 1) n)) ≡ Some q → a ≤ m → m < q → ((m ≡ a) ⊎ (m ≡ a → ⊥)) → test m ≡ false
least_first test a n q m true e later h low lt order = let same : a ≡ q = cc in absurd (omega arith)
least_first test a n q m false e later h low lt (inl same) = ap test same ∙ e
least_first test a n q m false e later h low lt (inr ne) = later h (omega (arith, ne)) lt

-- and is the least that passes
pub find-range-least : (test : ℕ → Bool) (a n q m : ℕ) → find test (range_with_len a n) ≡ Some q → a ≤ m → m < q → test m ≡ false
find-range-least test a zero q m h low lt = cc
find-range-least test a (suc n) q m h low lt = least_first test a n q m (test a) refl (λ f l k. find-range-least test (a + 1) n q m f l k) h low lt (cases_eq m a)

none_first : (test : ℕ → Bool) (a n m : ℕ) (b : Bool) → test a ≡ b → (find test (range_with_len (a + 1) n) ≡ None → a + 1 ≤ m → test m ≡ false) → cond b (Some a) (find test (range_with_len (a + 1) n)) ≡ None → a ≤ m → ((m ≡ a) ⊎ (m ≡ a → ⊥)) → test m ≡ false
none_first test a n m true e later h low order = cc
none_first test a n m false e later h low (inl same) = ap test same ∙ e
none_first test a n m false e later h low (inr ne) = later h (omega (arith, ne))

-- where nothing is found, none of them passes
pub find-range-none : (test : ℕ → Bool) (a n m : ℕ) → find test (range_with_len a n) ≡ None → a ≤ m → m < a + n → test m ≡ false
find-range-none test a zero m h low high = absurd (omega arith)
find-range-none test a (suc n) m h low high = none_first test a n m (test a) refl (λ f l. find-range-none test (a + 1) n m f l (omega arith)) h low (cases_eq m a)

-- the numbers go on
pub range-push : (a n : ℕ) → range_with_len a (suc n) ≡ range_with_len a n ++ (a + n) ∷ []
range-push a zero = ap (λ x. x ∷ []) (sym (add-zero a))
range-push a (suc n) =
    let same : (a + 1) + n ≡ a + suc n = omega arith in
    ap (λ l. a ∷ l) (range-push (a + 1) n ∙ ap (λ x. range_with_len (a + 1) n ++ x ∷ []) same)

-- what follows from two facts that hold of each element
pub all-with : {X : Type 0} (P Q R : X → Type 0) (xs : List X) → ((x : X) → P x → Q x → R x) → AllByRecursion P xs → AllByRecursion Q xs → AllByRecursion R xs
all-with P Q R [] h a b = tt
all-with P Q R (x ∷ xs) h a b = (h x a.0 b.0, all-with P Q R xs h a.1 b.1)

-- what holds of each holds of each behind the first m
pub all-drop : {X : Type 0} (P : X → Type 0) (m : ℕ) (xs : List X) → AllByRecursion P xs → AllByRecursion P (drop m xs)
all-drop P zero xs a = a
all-drop P (suc m) [] a = tt
all-drop P (suc m) (x ∷ xs) a = all-drop P m xs a.1

pub all-take : {X : Type 0} (P : X → Type 0) (m : ℕ) (xs : List X) → AllByRecursion P xs → AllByRecursion P (take m xs)
all-take P zero xs a = tt
all-take P (suc m) [] a = tt
all-take P (suc m) (x ∷ xs) a = (a.0, all-take P m xs a.1)

filter_cons : {X : Type 0} (x : X) (b c : Bool) (xs ys : List X) → b ≡ c → xs ≡ ys → cond b (x ∷ xs) xs ≡ cond c (x ∷ ys) ys
filter_cons x b c xs ys e f = rw (e, f) refl

-- tests that agree on each element leave the same
pub filter-same_on : {X : Type 0} (p q : X → Bool) (xs : List X) → AllByRecursion (λ x. p x ≡ q x) xs → filter p xs ≡ filter q xs
filter-same_on p q [] a = refl
filter-same_on p q (x ∷ xs) a = filter_cons x (p x) (q x) (filter p xs) (filter q xs) a.0 (filter-same_on p q xs a.1)

-- the greatest of numbers that agree on each element
pub greatest-same_on : {X : Type 0} (f g : X → ℕ) (xs : List X) → AllByRecursion (λ x. f x ≡ g x) xs → greatest f xs ≡ greatest g xs
unfolding greatest
greatest-same_on f g [] a = refl
greatest-same_on f g (x ∷ xs) a = omega (arith, a.0, greatest-same_on f g xs a.1)
