-- The laws that follow from the one order of all touches.
use Rattle.std.proofs.Common.{◌≡◌, ◌≢◌, ℕ, zero, suc, ◌+◌, ◌%◌, ◌^◌, ◌<◌, ◌≤◌, ◌==◌, ◌&&◌, not, ◌⊎◌, Bool, true, false, List, [], ◌∷◌, ◌++◌, map, length, set, Some, slice_get, refl, ap, sym, ◌∙◌, inl, inr, ⊎_elim, subst, arith}
use Rattle.std.specs.Prelude.{if◌then◌else◌}
use Rattle.std.specs.List.{AllByRecursion as Every, sum, sum_by}
use Rattle.std.proofs.lemmas.Bool.{eq-eqb, ne_eqb, eqb-true, eqb-false, cases_eq}
use Rattle.std.proofs.lemmas.List.{append-nil, length-set}
use Rattle.std.proofs.lemmas.List.Sums.{sum_by-cons}
use Rattle.hl_words.specs.declared.view.Touch.{Touch}
use Rattle.hl_words.specs.declared.view.Touch.TheVariants.{Stored, Loaded, Changed, Called, Looked, Met}
use Rattle.hl_words.specs.declared.view.RiderView.{RiderView}
use Rattle.hl_words.specs.Views.{newest}
use Rattle.hl_words.specs.Rule.{HasStore, EachRider, TouchBy, by_rider, left_by, held, Finds, IsSerial, touches_of, HasOneOrder}
use Rattle.hl_words.specs.Laws.{AddsUp, AddsAddUp, NoAddIsLost, LostAddIsUnlawful, TakesAreApart, takes, gives, TakesAreGiven, Meets, NoRiderGoesBack}
use Rattle.hl_words.proofs.Cut.{every_weaker}
use Rattle.hl_words.proofs.Orders.{there, within, own_more, other_more}

pub adds_add_up : AddsAddUp
adds_add_up c total more found r h = inr (refl, (more, total, refl, refl, h))

-- a row of totals that are all 0
all_zero : (totals : List ℕ) → ((i s : ℕ) → slice_get totals i ≡ Some s → s ≡ 0) → sum totals ≡ 0
all_zero [] h = refl
all_zero (x ∷ xs) h = omega (arith, sum_by-cons (λ (y : ℕ). y) x xs, h 0 x refl, all_zero xs (λ i s e. h (suc i) s e))

-- one total of a row gets less
sum_put : (totals : List ℕ) (k s rest more : ℕ) → slice_get totals k ≡ Some s → s ≡ rest + more → sum totals ≡ sum (set totals k rest) + more
sum_put [] k s rest more e is = absurd cc
sum_put (x ∷ xs) zero s rest more e is =
    let same : x ≡ s = cc e in
    omega (arith, sum_by-cons (λ (y : ℕ). y) x xs, sum_by-cons (λ (y : ℕ). y) rest xs, same, is)
sum_put (x ∷ xs) (suc k) s rest more e is =
    omega (arith, sum_by-cons (λ (y : ℕ). y) x xs, sum_by-cons (λ (y : ℕ). y) x (set xs k rest), sum_put xs k s rest more e is)

put_at : (xs : List ℕ) (k y i s : ℕ) → slice_get (set xs k y) i ≡ Some s → ((i ≡ k) × (y ≡ s)) ⊎ ((i ≢ k) × (slice_get xs i ≡ Some s))
put_at [] k y i s e = absurd cc
put_at (x ∷ xs) zero y zero s e = inl (refl, cc e)
put_at (x ∷ xs) zero y (suc i) s e = inr ((λ z. omega arith), e)
put_at (x ∷ xs) (suc k) y zero s e = inr ((λ z. omega arith), e)
put_at (x ∷ xs) (suc k) y (suc i) s e = ⊎_elim (λ a. inl (ap suc a.0, a.1)) (λ b. inr ((λ z. b.0 (omega arith)), b.1)) (put_at xs k y i s e)

-- what the riders add up to before the newest touch, whose rider has the total s or less
adds_before : (c : ℕ) (t : TouchBy) (before : List TouchBy) (totals : List ℕ) → ((i u : ℕ) → slice_get totals i ≡ Some u → AddsUp c u (touches_of i (t ∷ before))) → (rest : ℕ) → AddsUp c rest (touches_of t.rider before)
    → (i u : ℕ) → slice_get (set totals t.rider rest) i ≡ Some u → AddsUp c u (touches_of i before)
adds_before c t before totals adds rest own i u at =
    ⊎_elim
    (λ (same : (i ≡ t.rider) × (rest ≡ u)). subst (λ (k : ℕ). AddsUp c u (touches_of k before)) (sym same.0) (subst (λ (n : ℕ). AddsUp c n (touches_of t.rider before)) same.1 own))
    (λ (apart : (i ≢ t.rider) × (slice_get totals i ≡ Some u)). subst (AddsUp c u) (other_more i t.rider t.touch before (λ e. apart.0 (sym e))) (adds i u apart.1))
    (put_at totals t.rider rest i u at)

-- one add more: the sum goes with it
one_add : (v found more w a s : ℕ) → v ≡ (found + more) % 2 ^ 64 → found ≡ w → w ≡ a % 2 ^ 64 → s ≡ a + more → v ≡ s % 2 ^ 64
one_add v found more w a s is same sum total = omega arith

-- Where a cell holds 0, and the riders touch it from then on by loads and adds alone, it holds the sum of what they add
pub adds_since : (c : ℕ) (front base : List TouchBy) (totals : List ℕ) → IsSerial (front ++ base) → held c base ≡ 0 → Every (λ (t : TouchBy). t.rider < length totals) front
    → ((i s : ℕ) → slice_get totals i ≡ Some s → AddsUp c s (touches_of i front)) → held c (front ++ base) ≡ sum totals % 2 ^ 64
adds_since c [] base totals h none e adds = let z : sum totals ≡ 0 = all_zero totals adds in omega (arith, z, none)
adds_since c (t ∷ front) base totals h none e adds =
    let s = there totals t.rider e.0 in
    by s.0 s.1 t.touch h.0 (subst (AddsUp c s.0) (own_more t.rider t.touch front) (adds t.rider s.0 s.1))
    (λ rest own. adds_since c front base (set totals t.rider rest) h.1 none
    (every_weaker (λ (x : TouchBy). x.rider < length totals) (λ (x : TouchBy). x.rider < length (set totals t.rider rest)) front (λ x less. omega (arith, less, length-set totals t.rider rest)) e.1)
    (adds_before c t front totals adds rest own))
  where
    by : (s : ℕ) → slice_get totals t.rider ≡ Some s → (x : Touch) → Finds (front ++ base) x → AddsUp c s (x ∷ touches_of t.rider front)
        → ((rest : ℕ) → AddsUp c rest (touches_of t.rider front) → held c (front ++ base) ≡ sum (set totals t.rider rest) % 2 ^ 64) → left_by c x (held c (front ++ base)) ≡ sum totals % 2 ^ 64
    by s at x f own sooner = at_touch x f own
      where
        -- the rider's total stays
        stays : AddsUp c s (touches_of t.rider front) → held c (front ++ base) ≡ sum totals % 2 ^ 64
        stays own =
            let whole : s ≡ s + 0 = omega arith in
            let same : sum (set totals t.rider s) ≡ sum totals = omega (arith, sum_put totals t.rider s s 0 at whole) in
            sooner s own ∙ ap (λ (n : ℕ). n % 2 ^ 64) same

        at_touch : (x : Touch) → Finds (front ++ base) x → AddsUp c s (x ∷ touches_of t.rider front) → left_by c x (held c (front ++ base)) ≡ sum totals % 2 ^ 64
        at_touch (Stored d v) f own = ap (λ (b : Bool). if b then v else held c (front ++ base)) (ne_eqb d c own.0) ∙ stays own.1
        at_touch (Loaded d v) f own = stays own
        at_touch (Called met left) f own = stays own
        at_touch (Looked which x) f own = stays own
        at_touch (Met name count) f own = stays own
        at_touch (Changed d found v) f own =
            ⊎_elim
            (λ (a : (d ≢ c) × AddsUp c s (touches_of t.rider front)). ap (λ (b : Bool). if b then v else held c (front ++ base)) (ne_eqb d c a.0) ∙ stays a.1)
            (λ (a : (d ≡ c) × ((more : ℕ) × (rest : ℕ) × (s ≡ rest + more) × (v ≡ (found + more) % 2 ^ 64) × AddsUp c rest (touches_of t.rider front))).
            ap (λ (b : Bool). if b then v else held c (front ++ base)) (eq-eqb d c a.0)
            ∙ one_add v found a.1.0 (held c (front ++ base)) (sum (set totals t.rider a.1.1)) (sum totals) a.1.3 (f ∙ ap (λ (k : ℕ). held k (front ++ base)) a.0) (sooner a.1.1 a.1.4) (sum_put totals t.rider s a.1.1 a.1.0 at a.1.2))
            own

pub no_add_is_lost : NoAddIsLost
no_add_is_lost cells words stores riders c totals ruled less long adds =
    let h = ruled.order in
    let all : h.0 ++ [] ≡ h.0 = append-nil h.0 in
    h.1.last c less
    ∙ sym (ap (held c) all)
    ∙ adds_since c h.0 [] totals (subst IsSerial (sym all) h.1.serial) refl
    (every_weaker (λ (t : TouchBy). t.rider < length riders) (λ (t : TouchBy). t.rider < length totals) h.0 (λ t l. omega (arith, l, long)) h.1.theirs)
    (λ i s at. let r = there riders i (omega (arith, within totals i s at, long)) in subst (AddsUp c s) (h.1.each i r.0 r.1) (adds i r.0 r.1 s at))

-- the end of such an order is one
serial_back : (newer rest : List TouchBy) → IsSerial (newer ++ rest) → IsSerial rest
serial_back [] rest h = h
serial_back (t ∷ newer) rest h = serial_back newer rest h.1

-- where the cell holds x again, somebody stored it
stored_again : (c x w i : ℕ) (older between : List TouchBy) → w ≢ x → held c (between ++ by_rider i (Changed c x w) ∷ older) ≡ x → HasStore c x (map (λ (t : TouchBy). t.touch) between)
stored_again c x w i older [] apart e = absurd (apart (ap (λ (b : Bool). if b then w else held c older) (sym (eq-eqb c c refl)) ∙ e))
stored_again c x w i older (t ∷ between) apart e = by t.touch e (stored_again c x w i older between apart)
  where
    rest : List TouchBy
    rest = between ++ by_rider i (Changed c x w) ∷ older

    by_test : (d v : ℕ) (b : Bool) → (d == c) ≡ b → (if b then v else held c rest) ≡ x → (held c rest ≡ x → HasStore c x (map (λ (t : TouchBy). t.touch) between)) → ((d ≡ c) × (v ≡ x)) ⊎ HasStore c x (map (λ (t : TouchBy). t.touch) between)
    by_test d v true same is sooner = inl (eqb-true d c same, is)
    by_test d v false same is sooner = inr (sooner is)

    by : (u : Touch) → left_by c u (held c rest) ≡ x → (held c rest ≡ x → HasStore c x (map (λ (t : TouchBy). t.touch) between)) → HasStore c x (u ∷ map (λ (t : TouchBy). t.touch) between)
    by (Stored d v) is sooner = by_test d v (d == c) refl is sooner
    by (Loaded d v) is sooner = sooner is
    by (Called met left) is sooner = sooner is
    by (Looked which x) is sooner = sooner is
    by (Met name count) is sooner = sooner is
    by (Changed d found v) is sooner = by_test d v (d == c) refl is sooner

pub takes_are_apart : TakesAreApart
takes_are_apart c x v w i j newer between older h apart =
    stored_again c x w i older between apart (sym (serial_back newer (by_rider j (Changed c x v) ∷ (between ++ by_rider i (Changed c x w) ∷ older)) h).0)

-- the sum of g below n
abbrev row : (ℕ → ℕ) → ℕ → ℕ
row g zero = 0
row g (suc n) = g 0 + row (λ i. g (suc i)) n

row_same : (g k : ℕ → ℕ) (n : ℕ) → ((i : ℕ) → g i ≡ k i) → row g n ≡ row k n
row_same g k zero h = refl
row_same g k (suc n) h =
    let rest : row (λ i. g (suc i)) n ≡ row (λ i. k (suc i)) n = row_same (λ i. g (suc i)) (λ i. k (suc i)) n (λ i. h (suc i)) in
    omega (arith, h 0, rest)

row_more : (g k : ℕ → ℕ) (x at n : ℕ) → at < n → g at ≡ x + k at → ((i : ℕ) → i ≢ at → g i ≡ k i) → row g n ≡ x + row k n
row_more g k x at zero less more same = absurd (omega arith)
row_more g k x zero (suc n) less more same =
    let rest : row (λ i. g (suc i)) n ≡ row (λ i. k (suc i)) n = row_same (λ i. g (suc i)) (λ i. k (suc i)) n (λ i. same (suc i) (λ e. omega arith)) in
    omega (arith, more, rest)
row_more g k x (suc at) (suc n) less more same =
    let rest : row (λ i. g (suc i)) n ≡ x + row (λ i. k (suc i)) n = row_more (λ i. g (suc i)) (λ i. k (suc i)) x at n (omega arith) more (λ i apart. same (suc i) (λ e. apart (omega arith))) in
    omega (arith, same 0 (λ e. omega arith), rest)

row_zero : (n : ℕ) → row (λ i. 0) n ≡ 0
row_zero zero = refl
row_zero (suc n) = let rest : row (λ i. 0) n ≡ 0 = row_zero n in omega (arith, rest)

-- what is counted rider by rider is counted in the order
module _ (F : List Touch → ℕ) (none : F [] ≡ 0) (more : (t : Touch) (l : List Touch) → F (t ∷ l) ≡ F (t ∷ []) + F l) where
  by_riders : (riders : List RiderView) (g : ℕ → ℕ) → EachRider (λ i r. F r.touches ≡ g i) riders → sum_by (λ r. F r.touches) riders ≡ row g (length riders)
  by_riders [] g h = refl
  by_riders (r ∷ riders) g h =
      let rest : sum_by (λ r. F r.touches) riders ≡ row (λ i. g (suc i)) (length riders) = by_riders riders (λ i. g (suc i)) (λ i q e. h (suc i) q e) in
      omega (arith, sum_by-cons (λ (q : RiderView). F q.touches) r riders, h 0 r refl, rest)

  by_order : (n : ℕ) (order : List TouchBy) → Every (λ (t : TouchBy). t.rider < n) order → row (λ i. F (touches_of i order)) n ≡ F (map (λ (t : TouchBy). t.touch) order)
  by_order n [] e = row_same (λ i. F []) (λ i. 0) n (λ i. none) ∙ row_zero n ∙ sym none
  by_order n (t ∷ before) e =
      row_more (λ i. F (touches_of i (t ∷ before))) (λ i. F (touches_of i before)) (F (t.touch ∷ [])) t.rider n e.0
      (ap F (own_more t.rider t.touch before) ∙ more t.touch (touches_of t.rider before))
      (λ i apart. ap F (other_more i t.rider t.touch before (λ s. apart (sym s))))
      ∙ ap (λ (m : ℕ). F (t.touch ∷ []) + m) (by_order n before e.1)
      ∙ sym (more t.touch (map (λ (u : TouchBy). u.touch) before))

  spread : (cells : ℕ) (words : List ℕ) (riders : List RiderView) (h : HasOneOrder cells words riders) → sum_by (λ r. F r.touches) riders ≡ F (map (λ (t : TouchBy). t.touch) h.0)
  spread cells words riders h = by_riders riders (λ i. F (touches_of i h.0)) (λ i r at. ap F (h.1.each i r at)) ∙ by_order (length riders) h.0 h.1.theirs

takes_more : (c x : ℕ) (t : Touch) (l : List Touch) → takes c x (t ∷ l) ≡ takes c x (t ∷ []) + takes c x l
takes_more c x (Stored d v) l = omega arith
takes_more c x (Loaded d v) l = omega arith
takes_more c x (Changed d found v) l = omega arith
takes_more c x (Called met left) l = omega arith
takes_more c x (Looked which y) l = omega arith
takes_more c x (Met name count) l = omega arith

gives_more : (c x : ℕ) (t : Touch) (l : List Touch) → gives c x (t ∷ l) ≡ gives c x (t ∷ []) + gives c x l
gives_more c x (Stored d v) l = omega arith
gives_more c x (Loaded d v) l = omega arith
gives_more c x (Changed d found v) l = omega arith
gives_more c x (Called met left) l = omega arith
gives_more c x (Looked which y) l = omega arith
gives_more c x (Met name count) l = omega arith

abbrev one_if : Bool → ℕ
one_if b = if b then 1 else 0

at_start : (x : ℕ) → one_if (0 == x) ≤ one_if (x == 0)
at_start zero = omega arith
at_start (suc x) = let no : one_if (0 == suc x) ≡ 0 = ap one_if (ne_eqb 0 (suc x) (λ e. omega arith)) in omega (arith, no)

store_step : (b : Bool) (v w x t g z : ℕ) → t + one_if (w == x) ≤ g + z → t + one_if ((if b then v else w) == x) ≤ (one_if (b && (v == x)) + g) + z
store_step true v w x t g z h = omega arith
store_step false v w x t g z h = omega arith

change_by : (p q : Bool) (t g z : ℕ) → t + one_if p ≤ g + z → (one_if (p && not q) + t) + one_if q ≤ (one_if q + g) + z
change_by true true t g z h = omega arith
change_by true false t g z h = omega arith
change_by false true t g z h = omega arith
change_by false false t g z h = omega arith

change_step : (b : Bool) (found v w x t g z : ℕ) → (b ≡ true → found ≡ w) → t + one_if (w == x) ≤ g + z
    → (one_if (b && ((found == x) && not (v == x))) + t) + one_if ((if b then v else w) == x) ≤ (one_if (b && (v == x)) + g) + z
change_step true found v w x t g z same h = subst (λ (f : ℕ). (one_if ((f == x) && not (v == x)) + t) + one_if (v == x) ≤ (one_if (v == x) + g) + z) (sym (same refl)) (change_by (w == x) (v == x) t g z h)
change_step false found v w x t g z same h = omega arith

balance : (c x : ℕ) (order : List TouchBy) → IsSerial order
    → takes c x (map (λ (t : TouchBy). t.touch) order) + one_if (held c order == x) ≤ gives c x (map (λ (t : TouchBy). t.touch) order) + one_if (x == 0)
balance c x [] h = omega (arith, at_start x)
balance c x (t ∷ before) h = by t.touch h.0 (balance c x before h.1)
  where
    l : List Touch
    l = map (λ (u : TouchBy). u.touch) before

    by : (u : Touch) → Finds before u → takes c x l + one_if (held c before == x) ≤ gives c x l + one_if (x == 0)
        → takes c x (u ∷ l) + one_if (left_by c u (held c before) == x) ≤ gives c x (u ∷ l) + one_if (x == 0)
    by (Stored d v) f rest = store_step (d == c) v (held c before) x (takes c x l) (gives c x l) (one_if (x == 0)) rest
    by (Loaded d v) f rest = rest
    by (Called met left) f rest = rest
    by (Looked which x) f rest = rest
    by (Met name count) f rest = rest
    by (Changed d found v) f rest = change_step (d == c) found v (held c before) x (takes c x l) (gives c x l) (one_if (x == 0)) (λ e. f ∙ ap (λ (k : ℕ). held k before) (eqb-true d c e)) rest

pub takes_are_given : TakesAreGiven
takes_are_given cells words stores riders c x ruled =
    let h = ruled.order in
    omega (arith, balance c x h.0 h.1.serial, spread (takes c x) refl (takes_more c x) cells words riders h, spread (gives c x) refl (gives_more c x) cells words riders h)

-- an add of 1 to 0
one_taken : (c : ℕ) (l : List Touch) → l ≡ Changed c 0 1 ∷ [] → takes c 0 l ≡ 1
one_taken c l is = ap (takes c 0) is ∙ ap (λ (b : Bool). (if b && ((0 == 0) && not (1 == 0)) then 1 else 0) + 0) (eq-eqb c c refl)

none_given : (c : ℕ) (l : List Touch) → l ≡ Changed c 0 1 ∷ [] → gives c 0 l ≡ 0
none_given c l is = ap (gives c 0) is ∙ ap (λ (b : Bool). (if b && (1 == 0) then 1 else 0) + 0) (eq-eqb c c refl)

pub lost_add_is_unlawful : LostAddIsUnlawful
lost_add_is_unlawful cells words stores r q c one two ruled =
    let taken : RiderView → ℕ = λ p. takes c 0 p.touches in
    let given : RiderView → ℕ = λ p. gives c 0 p.touches in
    let most : sum_by taken (r ∷ q ∷ []) ≤ sum_by given (r ∷ q ∷ []) + 1 = takes_are_given cells words stores (r ∷ q ∷ []) c 0 ruled in
    omega (
      arith,
      most,
      one_taken c r.touches one,
      one_taken c q.touches two,
      none_given c r.touches one,
      none_given c q.touches two,
      sum_by-cons taken r (q ∷ []),
      sum_by-cons taken q [],
      sum_by-cons given r (q ∷ []),
      sum_by-cons given q [],
    )

-- the values stored into the cell, the newest first
abbrev put_value : ℕ → Touch → List ℕ → List ℕ
put_value c (Stored d v) values = if d == c then v ∷ values else values
put_value c (Loaded d v) values = values
put_value c (Changed d found v) values = if d == c then v ∷ values else values
put_value c (Called met left) values = values
put_value c (Looked which x) values = values
put_value c (Met name count) values = values

abbrev values_of : ℕ → List TouchBy → List ℕ
values_of c [] = []
values_of c (t ∷ before) = put_value c t.touch (values_of c before)

newest_put : (c : ℕ) (t : Touch) (values : List ℕ) → newest (put_value c t values) ≡ left_by c t (newest values)
newest_put c (Stored d v) values = by (d == c)
  where
    by : (b : Bool) → newest (if b then v ∷ values else values) ≡ (if b then v else newest values)
    by true = refl
    by false = refl
newest_put c (Loaded d v) values = refl
newest_put c (Called met left) values = refl
newest_put c (Looked which x) values = refl
newest_put c (Met name count) values = refl
newest_put c (Changed d found v) values = by (d == c)
  where
    by : (b : Bool) → newest (if b then v ∷ values else values) ≡ (if b then v else newest values)
    by true = refl
    by false = refl

newest_held : (c : ℕ) (order : List TouchBy) → newest (values_of c order) ≡ held c order
newest_held c [] = refl
newest_held c (t ∷ before) = newest_put c t.touch (values_of c before) ∙ ap (left_by c t.touch) (newest_held c before)

-- a newer value changes nothing for touches before it
meets_more : (c v : ℕ) (values : List ℕ) (l : List Touch) → Meets c values l → Meets c (v ∷ values) l
meets_more c v values [] m = tt
meets_more c v values (Stored d w ∷ before) m =
    ⊎_elim (λ a. inl (a.0, meets_more c v values before a.1)) (λ b. inr (b.0, (v ∷ b.1.0, b.1.1, ap (λ (xs : List ℕ). v ∷ xs) b.1.2, b.1.3))) m
meets_more c v values (Called met left ∷ before) m = meets_more c v values before m
meets_more c v values (Looked which x ∷ before) m = meets_more c v values before m
meets_more c v values (Met name count ∷ before) m = meets_more c v values before m
meets_more c v values (Loaded d w ∷ before) m =
    ⊎_elim (λ a. inl (a.0, meets_more c v values before a.1)) (λ b. inr (b.0, (v ∷ b.1.0, b.1.1, ap (λ (xs : List ℕ). v ∷ xs) b.1.2, b.1.3, b.1.4))) m
meets_more c v values (Changed d found w ∷ before) m =
    ⊎_elim (λ a. inl (a.0, meets_more c v values before a.1)) (λ b. inr (b.0, (v ∷ b.1.0, b.1.1, ap (λ (xs : List ℕ). v ∷ xs) b.1.2, b.1.3, b.1.4))) m

-- another rider's touch
meets_either : (c v : ℕ) (values : List ℕ) (l : List Touch) → Meets c values l → (b : Bool) → Meets c (if b then v ∷ values else values) l
meets_either c v values l m true = meets_more c v values l m
meets_either c v values l m false = m

meets_put : (c : ℕ) (t : Touch) (values : List ℕ) (l : List Touch) → Meets c values l → Meets c (put_value c t values) l
meets_put c (Stored d v) values l m = meets_either c v values l m (d == c)
meets_put c (Loaded d v) values l m = m
meets_put c (Called met left) values l m = m
meets_put c (Looked which x) values l m = m
meets_put c (Met name count) values l m = m
meets_put c (Changed d found v) values l m = meets_either c v values l m (d == c)

-- the rider's own
meets_own : (c : ℕ) (before : List TouchBy) (t : Touch) (l : List Touch) → Finds before t → Meets c (values_of c before) l → Meets c (put_value c t (values_of c before)) (t ∷ l)
meets_own c before (Stored d v) l f m = by (d == c) refl
  where
    by : (b : Bool) → (d == c) ≡ b → Meets c (if b then v ∷ values_of c before else values_of c before) (Stored d v ∷ l)
    by true e = inr (eqb-true d c e, ([], values_of c before, refl, m))
    by false e = inl (eqb-false d c e, m)
meets_own c before (Called met left) l f m = m
meets_own c before (Looked which x) l f m = m
meets_own c before (Met name count) l f m = m
meets_own c before (Loaded d v) l f m =
    ⊎_elim
    (λ (same : d ≡ c). inr (same, ([], values_of c before, refl, f ∙ ap (λ (k : ℕ). held k before) same ∙ sym (newest_held c before), m)))
    (λ (apart : d ≢ c). inl (apart, m))
    (cases_eq d c)
meets_own c before (Changed d found v) l f m = by (d == c) refl
  where
    by : (b : Bool) → (d == c) ≡ b → Meets c (if b then v ∷ values_of c before else values_of c before) (Changed d found v ∷ l)
    by true e = inr (eqb-true d c e, ([], values_of c before, refl, f ∙ ap (λ (k : ℕ). held k before) (eqb-true d c e) ∙ sym (newest_held c before), m))
    by false e = inl (eqb-false d c e, m)

meets_order : (c i : ℕ) (order : List TouchBy) → IsSerial order → Meets c (values_of c order) (touches_of i order)
meets_order c i [] h = tt
meets_order c i (t ∷ before) h = by (t.rider == i) (meets_order c i before h.1)
  where
    by : (b : Bool) → Meets c (values_of c before) (touches_of i before) → Meets c (put_value c t.touch (values_of c before)) (if b then t.touch ∷ touches_of i before else touches_of i before)
    by true m = meets_own c before t.touch (touches_of i before) h.0 m
    by false m = meets_put c t.touch (values_of c before) (touches_of i before) m

pub no_rider_goes_back : NoRiderGoesBack
no_rider_goes_back cells words stores riders c ruled less =
    let h = ruled.order in (
      values_of c h.0,
      h.1.last c less ∙ sym (newest_held c h.0),
      λ i r at. subst (Meets c (values_of c h.0)) (sym (h.1.each i r at)) (meets_order c i h.0 h.1.serial),
    )
