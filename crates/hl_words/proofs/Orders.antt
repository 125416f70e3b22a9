-- The one order of all touches: what one touch more makes of it, that riders may change places in it, and that the clauses on each cell and each rider follow from it.
use Rattle.std.proofs.Common.{◌≡◌, ◌≢◌, ℕ, zero, suc, ◌+◌, ◌<◌, ◌≤◌, ◌==◌, Bool, true, false, List, [], ◌∷◌, ◌++◌, length, set, Some, slice_get, refl, ap, sym, ◌∙◌, ⊎_elim, subst, arith, length-append}
use Rattle.std.specs.Prelude.{if◌then◌else◌, slice_index}
use Rattle.std.specs.List.{AllByRecursion as Every}
use Rattle.std.proofs.lemmas.Bool.{eq-eqb, ne_eqb, cases_eq}
use Rattle.std.proofs.lemmas.List.{get_or-set_same, get_or-set_other}
use Rattle.hl_words.specs.declared.view.Touch.{Touch}
use Rattle.hl_words.specs.declared.view.Touch.TheVariants.{Stored, Loaded, Changed, Called, Looked, Met}
use Rattle.hl_words.specs.declared.view.RiderView.{RiderView}
use Rattle.hl_words.specs.Rule.{EachRider, SomeRider, TouchBy, by_rider, left_by, held, called_by, last_called, IsLookUpTo, Finds, IsSerial, touches_of, AreNamed, HasMet, AreMet, HasOneOrder}
use Rattle.hl_words.proofs.Cut.{every_weaker, every_at}

module _ {X : Type 0} where
  -- a place below the length has an element
  pub there : (xs : List X) (i : ℕ) → i < length xs → (x : X) × (slice_get xs i ≡ Some x)
  there [] i less = absurd (omega arith)
  there (x ∷ xs) zero less = (x, refl)
  there (x ∷ xs) (suc i) less = there xs i (omega arith)

  -- and a place that has one is below it
  pub within : (xs : List X) (i : ℕ) (x : X) → slice_get xs i ≡ Some x → i < length xs
  within [] i x e = absurd cc
  within (y ∷ ys) zero x e = omega arith
  within (y ∷ ys) (suc i) x e = omega (arith, within ys i x e)

  -- the place in the middle
  pub at_place : (front : List X) (r : X) (back : List X) → slice_get (front ++ r ∷ back) (length front) ≡ Some r
  at_place [] r back = refl
  at_place (x ∷ front) r back = at_place front r back

  -- the other places don't tell what stands there
  elsewhere_same : (front : List X) (r q : X) (back : List X) (i : ℕ) → i ≢ length front → slice_get (front ++ q ∷ back) i ≡ slice_get (front ++ r ∷ back) i
  elsewhere_same [] r q back zero apart = absurd (apart refl)
  elsewhere_same [] r q back (suc i) apart = refl
  elsewhere_same (x ∷ front) r q back zero apart = refl
  elsewhere_same (x ∷ front) r q back (suc i) apart = elsewhere_same front r q back i (λ e. apart (ap suc e))

-- one touch more is its rider's, and no other's
pub own_more : (i : ℕ) (t : Touch) (order : List TouchBy) → touches_of i (by_rider i t ∷ order) ≡ t ∷ touches_of i order
own_more i t order = ap (λ (b : Bool). if b then t ∷ touches_of i order else touches_of i order) (eq-eqb i i refl)

pub other_more : (i j : ℕ) (t : Touch) (order : List TouchBy) → j ≢ i → touches_of i (by_rider j t ∷ order) ≡ touches_of i order
other_more i j t order apart = ap (λ (b : Bool). if b then t ∷ touches_of i order else touches_of i order) (ne_eqb j i apart)

-- the lists of all riders, where the one in the middle changes
each_middle : (front : List RiderView) (r q : RiderView) (back : List RiderView) (own now : ℕ → List Touch) → EachRider (λ i x. x.touches ≡ own i) (front ++ r ∷ back)
    → q.touches ≡ now (length front) → ((i : ℕ) → i ≢ length front → now i ≡ own i) → EachRider (λ i x. x.touches ≡ now i) (front ++ q ∷ back)
each_middle front r q back own now old mine others i p e =
    ⊎_elim
    (λ (same : i ≡ length front).
    let at : slice_get (front ++ q ∷ back) (length front) ≡ Some p = subst (λ (k : ℕ). slice_get (front ++ q ∷ back) k ≡ Some p) same e in
    let both : Some q ≡ Some p = sym (at_place front q back) ∙ at in
    let is : q ≡ p = cc both in
    ap (λ (x : RiderView). x.touches) (sym is) ∙ mine ∙ ap now (sym same))
    (λ (apart : i ≢ length front). old i p (sym (elsewhere_same front r q back i apart) ∙ e) ∙ sym (others i apart))
    (cases_eq i (length front))

-- what holds of some rider, where the one in the middle changes
pub some_changed : (P Q : ℕ → RiderView → Type 0) (front : List RiderView) (r q : RiderView) (back : List RiderView) → (P (length front) r → Q (length front) q) → ((i : ℕ) (x : RiderView) → P i x → Q i x)
    → SomeRider P (front ++ r ∷ back) → SomeRider Q (front ++ q ∷ back)
some_changed P Q front r q back mine others s =
    ⊎_elim
    (λ (same : s.0 ≡ length front).
    let at : slice_get (front ++ r ∷ back) (length front) ≡ Some s.1 = subst (λ (k : ℕ). slice_get (front ++ r ∷ back) k ≡ Some s.1) same s.2 in
    let both : Some r ≡ Some s.1 = sym (at_place front r back) ∙ at in
    let is : r ≡ s.1 = cc both in
    (length front, q, at_place front q back, mine (subst (λ (x : RiderView). P (length front) x) (sym is) (subst (λ (k : ℕ). P k s.1) same s.3))))
    (λ (apart : s.0 ≢ length front). (s.0, s.1, elsewhere_same front r q back s.0 apart ∙ s.2, others s.0 s.1 s.3))
    (cases_eq s.0 (length front))

-- each rider stood there before with the same name
was_named : (front : List RiderView) (r q : RiderView) (back : List RiderView) → q.name ≡ r.name → (i : ℕ) (x : RiderView) → slice_get (front ++ q ∷ back) i ≡ Some x
    → (y : RiderView) × (slice_get (front ++ r ∷ back) i ≡ Some y) × (y.name ≡ x.name)
was_named front r q back same i x at =
    ⊎_elim
    (λ (here : i ≡ length front).
    let there : slice_get (front ++ q ∷ back) (length front) ≡ Some x = subst (λ (k : ℕ). slice_get (front ++ q ∷ back) k ≡ Some x) here at in
    let both : Some q ≡ Some x = sym (at_place front q back) ∙ there in
    let is : q ≡ x = cc both in
    (r, subst (λ (k : ℕ). slice_get (front ++ r ∷ back) k ≡ Some r) (sym here) (at_place front r back), sym same ∙ ap (λ (z : RiderView). z.name) is))
    (λ (apart : i ≢ length front). (x, sym (elsewhere_same front r q back i apart) ∙ at, refl))
    (cases_eq i (length front))

named_changed : (front : List RiderView) (r q : RiderView) (back : List RiderView) → q.name ≡ r.name → AreNamed (front ++ r ∷ back) → AreNamed (front ++ q ∷ back)
named_changed front r q back same h i j x y ati atj e =
    let a = was_named front r q back same i x ati in
    let b = was_named front r q back same j y atj in
    h i j a.0 b.0 a.1 b.1 (a.2 ∙ e ∙ sym b.2)

met_changed : (front : List RiderView) (r q : RiderView) (back : List RiderView) → q.name ≡ r.name → (before : List TouchBy) (t : Touch) → HasMet (front ++ r ∷ back) before t → HasMet (front ++ q ∷ back) before t
met_changed front r q back same before (Stored d v) h = tt
met_changed front r q back same before (Loaded d v) h = tt
met_changed front r q back same before (Changed d w v) h = tt
met_changed front r q back same before (Called met left) h = tt
met_changed front r q back same before (Looked which x) h = tt
met_changed front r q back same before (Met name count) h =
    some_changed (λ i x. (x.name ≡ name) × (count ≤ length (touches_of i before))) (λ i x. (x.name ≡ name) × (count ≤ length (touches_of i before))) front r q back (λ p. (same ∙ p.0, p.1)) (λ i x p. p) h

are_met_changed : (front : List RiderView) (r q : RiderView) (back : List RiderView) → q.name ≡ r.name → (order : List TouchBy) → AreMet (front ++ r ∷ back) order → AreMet (front ++ q ∷ back) order
are_met_changed front r q back same [] h = tt
are_met_changed front r q back same (t ∷ before) h = (met_changed front r q back same before t.touch h.0, are_met_changed front r q back same before h.1)

-- what holds of each touch of each rider holds of each of the order
every_either : (P : Touch → Type 0) (t : Touch) (l : List Touch) (b : Bool) → Every P (if b then t ∷ l else l) → Every P l
every_either P t l true h = h.1
every_either P t l false h = h

every_by : (P : Touch → Type 0) (n : ℕ) (order : List TouchBy) → Every (λ (t : TouchBy). t.rider < n) order → ((i : ℕ) → i < n → Every P (touches_of i order)) → Every (λ (t : TouchBy). P t.touch) order
every_by P n [] less each = tt
every_by P n (t ∷ before) less each =
    let own : Every P (t.touch ∷ touches_of t.rider before) = subst (Every P) (own_more t.rider t.touch before) (each t.rider less.0) in
    (own.0, every_by P n before less.1 (λ i below. every_either P t.touch (touches_of i before) (t.rider == i) (each i below)))

-- so it does of each of the order, if it does of all riders'
pub order_every : (P : Touch → Type 0) (cells : ℕ) (words : List ℕ) (riders : List RiderView) (h : HasOneOrder cells words riders) → Every (λ (r : RiderView). Every P r.touches) riders → Every (λ (t : TouchBy). P t.touch) h.0
order_every P cells words riders h each =
    every_by P (length riders) h.0 h.1.theirs
    (λ i less. let one = there riders i less in subst (Every P) (h.1.each i one.0 one.1) (every_at (λ (r : RiderView). Every P r.touches) riders each i one.0 one.1))

-- and a rider has met what some rider did
pub met_last : (name count : ℕ) (cells : ℕ) (words : List ℕ) (riders : List RiderView) (h : HasOneOrder cells words riders) → SomeRider (λ i r. (r.name ≡ name) × (count ≤ length r.touches)) riders → HasMet riders h.0 (Met name count)
met_last name count cells words riders h s = (s.0, s.1, s.2, (s.3.0, subst (λ (l : List Touch). count ≤ length l) (h.1.each s.0 s.1 s.2) s.3.1))

-- a rider takes one touch more
pub order_more : (cells : ℕ) (words after : List ℕ) (front : List RiderView) (r q : RiderView) (back : List RiderView) (t : Touch) → q.name ≡ r.name → q.touches ≡ t ∷ r.touches → (h : HasOneOrder cells words (front ++ r ∷ back))
    → Finds h.0 t → HasMet (front ++ r ∷ back) h.0 t → ((c : ℕ) → c < cells → slice_index after c ≡ left_by c t (held c h.0))
    → (o : HasOneOrder cells after (front ++ q ∷ back)) × (last_called o.0 ≡ called_by t (last_called h.0))
order_more cells words after front r q back t named same h finds met last =
    let n = length front in (
      (
        by_rider n t ∷ h.0,
        record {
          serial = (finds, h.1.serial);
          each = each_middle front r q back (λ i. touches_of i h.0) (λ i. touches_of i (by_rider n t ∷ h.0)) h.1.each
              (same ∙ ap (λ (l : List Touch). t ∷ l) (h.1.each n r (at_place front r back)) ∙ sym (own_more n t h.0))
              (λ i apart. other_more i n t h.0 (λ e. apart (sym e)));
          theirs = (
            within (front ++ q ∷ back) n q (at_place front q back),
            every_weaker (λ (s : TouchBy). s.rider < length (front ++ r ∷ back)) (λ (s : TouchBy). s.rider < length (front ++ q ∷ back)) h.0
                (λ s less. omega (arith, less, length-append front (r ∷ back), length-append front (q ∷ back))) h.1.theirs,
          );
          last = last;
          met = (met_changed front r q back named h.0 t met, are_met_changed front r q back named h.0 h.1.met);
          names = named_changed front r q back named h.1.names;
        },
      ),
      refl,
    )

-- what the cells hold after a store into one of them
pub put_last : (cells : ℕ) (words : List ℕ) (c v : ℕ) → c < cells → length words ≡ cells + 19 → (order : List TouchBy) → ((d : ℕ) → d < cells → slice_index words d ≡ held d order)
    → (d : ℕ) → d < cells → slice_index (set words c v) d ≡ (if c == d then v else held d order)
put_last cells words c v less width order last d below =
    ⊎_elim
    (λ (same : c ≡ d). ap (slice_index (set words c v)) (sym same) ∙ get_or-set_same words c v 0 (omega arith) ∙ ap (λ (b : Bool). if b then v else held d order) (sym (eq-eqb c d same)))
    (λ (apart : c ≢ d). get_or-set_other words c d v 0 (λ e. apart (sym e)) ∙ last d below ∙ ap (λ (b : Bool). if b then v else held d order) (sym (ne_eqb c d apart)))
    (cases_eq c d)

-- the riders by other numbers
abbrev renamed : (ℕ → ℕ) → List TouchBy → List TouchBy
renamed f [] = []
renamed f (t ∷ before) = by_rider (f t.rider) t.touch ∷ renamed f before

held_renamed : (f : ℕ → ℕ) (c : ℕ) (order : List TouchBy) → held c (renamed f order) ≡ held c order
held_renamed f c [] = refl
held_renamed f c (t ∷ before) = ap (left_by c t.touch) (held_renamed f c before)

called_renamed : (f : ℕ → ℕ) (order : List TouchBy) → last_called (renamed f order) ≡ last_called order
called_renamed f [] = refl
called_renamed f (t ∷ before) = ap (called_by t.touch) (called_renamed f before)

every_renamed : (P : Touch → Type 0) (f : ℕ → ℕ) (order : List TouchBy) → Every (λ (t : TouchBy). P t.touch) order → Every (λ (t : TouchBy). P t.touch) (renamed f order)
every_renamed P f [] h = tt
every_renamed P f (t ∷ before) h = (h.0, every_renamed P f before h.1)

finds_renamed : (f : ℕ → ℕ) (before : List TouchBy) (t : Touch) → Finds before t → Finds (renamed f before) t
finds_renamed f before (Stored d v) h = tt
finds_renamed f before (Loaded d v) h = h ∙ sym (held_renamed f d before)
finds_renamed f before (Changed d w v) h = h ∙ sym (held_renamed f d before)
finds_renamed f before (Called met left) h = (h.0 ∙ sym (called_renamed f before), h.1)
finds_renamed f before (Looked which x) h = every_renamed (IsLookUpTo which x) f before h
finds_renamed f before (Met name count) h = tt

serial_renamed : (f : ℕ → ℕ) (order : List TouchBy) → IsSerial order → IsSerial (renamed f order)
serial_renamed f [] h = tt
serial_renamed f (t ∷ before) h = (finds_renamed f before t.touch h.0, serial_renamed f before h.1)

own_renamed : (f g : ℕ → ℕ) → ((k : ℕ) → g (f k) ≡ k) → ((k : ℕ) → f (g k) ≡ k) → (j : ℕ) (order : List TouchBy) → touches_of j (renamed f order) ≡ touches_of (g j) order
own_renamed f g back forth j [] = refl
own_renamed f g back forth j (t ∷ before) = by (own_renamed f g back forth j before)
  where
    tests : (f t.rider == j) ≡ (t.rider == g j)
    tests = ⊎_elim
        (λ (same : f t.rider ≡ j). eq-eqb (f t.rider) j same ∙ sym (eq-eqb t.rider (g j) (sym (back t.rider) ∙ ap g same)))
        (λ (apart : f t.rider ≢ j). ne_eqb (f t.rider) j apart ∙ sym (ne_eqb t.rider (g j) (λ e. apart (ap f e ∙ forth j))))
        (cases_eq (f t.rider) j)

    by : touches_of j (renamed f before) ≡ touches_of (g j) before → touches_of j (renamed f (t ∷ before)) ≡ touches_of (g j) (t ∷ before)
    by rest = ap (λ (l : List Touch). if f t.rider == j then t.touch ∷ l else l) rest ∙ ap (λ (b : Bool). if b then t.touch ∷ touches_of (g j) before else touches_of (g j) before) tests

theirs_renamed : (f g : ℕ → ℕ) (riders after : List RiderView) → ((k : ℕ) → g (f k) ≡ k) → ((j : ℕ) → slice_get after j ≡ slice_get riders (g j)) → (order : List TouchBy)
    → Every (λ (t : TouchBy). t.rider < length riders) order → Every (λ (t : TouchBy). t.rider < length after) (renamed f order)
theirs_renamed f g riders after back same [] e = tt
theirs_renamed f g riders after back same (t ∷ before) e =
    let s = there riders t.rider e.0 in
    (within after (f t.rider) s.0 (same (f t.rider) ∙ ap (slice_get riders) (back t.rider) ∙ s.1), theirs_renamed f g riders after back same before e.1)

-- what holds of some rider, where they change places
some_renamed : (P Q : ℕ → RiderView → Type 0) (riders after : List RiderView) (f : ℕ → ℕ) → ((i : ℕ) → slice_get after (f i) ≡ slice_get riders i) → ((i : ℕ) (x : RiderView) → P i x → Q (f i) x) → SomeRider P riders → SomeRider Q after
some_renamed P Q riders after f same fits s = (f s.0, s.1, same s.0 ∙ s.2, fits s.0 s.1 s.3)

met_renamed : (f g : ℕ → ℕ) → ((k : ℕ) → g (f k) ≡ k) → ((k : ℕ) → f (g k) ≡ k) → (riders after : List RiderView) → ((j : ℕ) → slice_get after j ≡ slice_get riders (g j)) → (before : List TouchBy) (t : Touch) → HasMet riders before t → HasMet after (renamed f before) t
met_renamed f g back forth riders after same before (Stored d v) h = tt
met_renamed f g back forth riders after same before (Loaded d v) h = tt
met_renamed f g back forth riders after same before (Changed d w v) h = tt
met_renamed f g back forth riders after same before (Called met left) h = tt
met_renamed f g back forth riders after same before (Looked which x) h = tt
met_renamed f g back forth riders after same before (Met name count) h =
    some_renamed (λ i x. (x.name ≡ name) × (count ≤ length (touches_of i before))) (λ i x. (x.name ≡ name) × (count ≤ length (touches_of i (renamed f before)))) riders after f
    (λ i. same (f i) ∙ ap (slice_get riders) (back i))
    (λ i x p. (p.0, subst (λ (l : List Touch). count ≤ length l) (sym (own_renamed f g back forth (f i) before ∙ ap (λ (k : ℕ). touches_of k before) (back i))) p.1))
    h

are_met_renamed : (f g : ℕ → ℕ) → ((k : ℕ) → g (f k) ≡ k) → ((k : ℕ) → f (g k) ≡ k) → (riders after : List RiderView) → ((j : ℕ) → slice_get after j ≡ slice_get riders (g j)) → (order : List TouchBy) → AreMet riders order → AreMet after (renamed f order)
are_met_renamed f g back forth riders after same [] h = tt
are_met_renamed f g back forth riders after same (t ∷ before) h = (met_renamed f g back forth riders after same before t.touch h.0, are_met_renamed f g back forth riders after same before h.1)

order_renamed : (cells : ℕ) (words : List ℕ) (riders after : List RiderView) (f g : ℕ → ℕ) → ((k : ℕ) → g (f k) ≡ k) → ((k : ℕ) → f (g k) ≡ k) → ((j : ℕ) → slice_get after j ≡ slice_get riders (g j))
    → (h : HasOneOrder cells words riders) → (o : HasOneOrder cells words after) × (last_called o.0 ≡ last_called h.0)
order_renamed cells words riders after f g back forth same h = (
  (
    renamed f h.0,
    record {
      serial = serial_renamed f h.0 h.1.serial;
      each = λ j r e. h.1.each (g j) r (sym (same j) ∙ e) ∙ sym (own_renamed f g back forth j h.0);
      theirs = theirs_renamed f g riders after back same h.0 h.1.theirs;
      last = λ c less. h.1.last c less ∙ sym (held_renamed f c h.0);
      met = are_met_renamed f g back forth riders after same h.0 h.1.met;
      names = λ i j r q ati atj e. sym (forth i) ∙ ap f (h.1.names (g i) (g j) r q (sym (same i) ∙ ati) (sym (same j) ∙ atj) e) ∙ forth j;
    },
  ),
  called_renamed f h.0,
)

-- the numbers where one goes to the front past n others: `ahead` of what was, `behind` of what is
abbrev swapped : ℕ → ℕ
swapped zero = suc zero
swapped (suc zero) = zero
swapped (suc (suc k)) = suc (suc k)

abbrev but_first : (ℕ → ℕ) → ℕ → ℕ
but_first f zero = zero
but_first f (suc k) = suc (f k)

abbrev ahead : ℕ → ℕ → ℕ
ahead zero k = k
ahead (suc n) k = swapped (but_first (ahead n) k)

abbrev behind : ℕ → ℕ → ℕ
behind zero k = k
behind (suc n) k = but_first (behind n) (swapped k)

swapped_twice : (k : ℕ) → swapped (swapped k) ≡ k
swapped_twice zero = refl
swapped_twice (suc zero) = refl
swapped_twice (suc (suc k)) = refl

but_first_back : (f g : ℕ → ℕ) → ((k : ℕ) → g (f k) ≡ k) → (k : ℕ) → but_first g (but_first f k) ≡ k
but_first_back f g h zero = refl
but_first_back f g h (suc k) = ap suc (h k)

ahead_behind : (n k : ℕ) → ahead n (behind n k) ≡ k
ahead_behind zero k = refl
ahead_behind (suc n) k = ap swapped (but_first_back (behind n) (ahead n) (ahead_behind n) (swapped k)) ∙ swapped_twice k

behind_ahead : (n k : ℕ) → behind n (ahead n k) ≡ k
behind_ahead zero k = refl
behind_ahead (suc n) k = ap (but_first (behind n)) (swapped_twice (but_first (ahead n) k)) ∙ but_first_back (ahead n) (behind n) (behind_ahead n) k

moved_at : (front : List RiderView) (r : RiderView) (back : List RiderView) (j : ℕ) → slice_get (r ∷ (front ++ back)) j ≡ slice_get (front ++ r ∷ back) (behind (length front) j)
moved_at [] r back j = refl
moved_at (x ∷ front) r back zero = moved_at front r back zero
moved_at (x ∷ front) r back (suc zero) = refl
moved_at (x ∷ front) r back (suc (suc j)) = moved_at front r back (suc j)

module _ (front : List RiderView) (r : RiderView) (back : List RiderView) (cells : ℕ) (words : List ℕ) where
  -- one rider comes to the front
  pub order_to_front : (h : HasOneOrder cells words (front ++ r ∷ back)) → (o : HasOneOrder cells words (r ∷ (front ++ back))) × (last_called o.0 ≡ last_called h.0)
  order_to_front h =
      let n = length front in
      order_renamed cells words (front ++ r ∷ back) (r ∷ (front ++ back)) (ahead n) (behind n) (behind_ahead n) (ahead_behind n) (moved_at front r back) h

  -- or goes from it
  pub order_from_front : (h : HasOneOrder cells words (r ∷ (front ++ back))) → (o : HasOneOrder cells words (front ++ r ∷ back)) × (last_called o.0 ≡ last_called h.0)
  order_from_front h =
      let n = length front in
      order_renamed cells words (r ∷ (front ++ back)) (front ++ r ∷ back) (behind n) (ahead n) (ahead_behind n) (behind_ahead n)
      (λ j. sym (moved_at front r back (ahead n j) ∙ ap (slice_get (front ++ r ∷ back)) (behind_ahead n j))) h

module _ (front : List RiderView) (r : RiderView) (back : List RiderView) where
  -- what holds of some rider, wherever that one stands
  pub some_to_front : (P : RiderView → Type 0) → SomeRider (λ i x. P x) (front ++ r ∷ back) → SomeRider (λ i x. P x) (r ∷ (front ++ back))
  some_to_front P s =
      let n = length front in
      some_renamed (λ i x. P x) (λ i x. P x) (front ++ r ∷ back) (r ∷ (front ++ back)) (ahead n) (λ i. moved_at front r back (ahead n i) ∙ ap (slice_get (front ++ r ∷ back)) (behind_ahead n i)) (λ i x p. p) s

  pub some_from_front : (P : RiderView → Type 0) → SomeRider (λ i x. P x) (r ∷ (front ++ back)) → SomeRider (λ i x. P x) (front ++ r ∷ back)
  some_from_front P s =
      let n = length front in
      some_renamed (λ i x. P x) (λ i x. P x) (r ∷ (front ++ back)) (front ++ r ∷ back) (behind n) (λ i. sym (moved_at front r back i)) (λ i x p. p) s
