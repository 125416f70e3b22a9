-- What follows from the one order for each cell and for each rider by itself.
use Rattle.std.proofs.Common.{◌≡◌, ◌≢◌, ℕ, ◌<◌, ◌==◌, ◌⊎◌, Bool, true, false, List, [], ◌∷◌, length, Some, None, refl, ap, sym, ◌∙◌, inl, inr, ⊎_elim, subst}
use Rattle.std.specs.Prelude.{if◌then◌else◌, slice_index}
use Rattle.std.specs.List.{AllByRecursion as Every}
use Rattle.std.proofs.lemmas.Bool.{eqb-true, eqb-false, cases_eq}
use Rattle.hl_words.specs.declared.view.Touch.{Touch}
use Rattle.hl_words.specs.declared.view.Touch.TheVariants.{Stored, Loaded, Changed, Called, Looked, Met}
use Rattle.hl_words.specs.declared.view.RiderView.{RiderView}
use Rattle.hl_words.specs.Rule.{last_store, IsQuiet, HasStore, EachRider, IsElsewhere, IsFound, IsLawful, IsCell, TouchBy, left_by, held, Finds, IsSerial, touches_of, HasOneOrder}
use Rattle.hl_words.proofs.Orders.{own_more, there}

-- a touch that stores into the cell, and one that does not
pub record Puts (c : ℕ) (t : Touch) : Type 0 where
  pub value : ℕ
  pub leaves : (w : ℕ) → left_by c t w ≡ value
  pub last : (l : List Touch) → last_store c (t ∷ l) ≡ Some value

pub record Passes (c : ℕ) (t : Touch) : Type 0 where
  pub leaves : (w : ℕ) → left_by c t w ≡ w
  pub last : (l : List Touch) → last_store c (t ∷ l) ≡ last_store c l
  pub quiet : (before : List TouchBy) (l : List Touch) → Finds before t → held c before ≡ 0 → IsQuiet c l → IsQuiet c (t ∷ l)

pub puts_or_passes : (c : ℕ) (t : Touch) → Puts c t ⊎ Passes c t
puts_or_passes c (Stored d v) = by (d == c) refl
  where
    by : (b : Bool) → (d == c) ≡ b → Puts c (Stored d v) ⊎ Passes c (Stored d v)
    by true e = inl record {
      value = v;
      leaves = λ w. ap (λ (x : Bool). if x then v else w) e;
      last = λ l. ap (λ (x : Bool). if x then Some v else last_store c l) e;
    }
    by false e = inr record {
      leaves = λ w. ap (λ (x : Bool). if x then v else w) e;
      last = λ l. ap (λ (x : Bool). if x then Some v else last_store c l) e;
      quiet = λ before l f z q. (eqb-false d c e, q);
    }
puts_or_passes c (Loaded d v) = inr record {
  leaves = λ w. refl;
  last = λ l. refl;
  quiet = λ before l f z q. ((λ (same : d ≡ c). f ∙ ap (λ (k : ℕ). held k before) same ∙ z), q);
}
puts_or_passes c (Changed d found v) = by (d == c) refl
  where
    by : (b : Bool) → (d == c) ≡ b → Puts c (Changed d found v) ⊎ Passes c (Changed d found v)
    by true e = inl record {
      value = v;
      leaves = λ w. ap (λ (x : Bool). if x then v else w) e;
      last = λ l. ap (λ (x : Bool). if x then Some v else last_store c l) e;
    }
    by false e = inr record {
      leaves = λ w. ap (λ (x : Bool). if x then v else w) e;
      last = λ l. ap (λ (x : Bool). if x then Some v else last_store c l) e;
      quiet = λ before l f z q. (eqb-false d c e, q);
    }
puts_or_passes c (Called met left) = inr record {
  leaves = λ w. refl;
  last = λ l. refl;
  quiet = λ before l f z q. q;
}
puts_or_passes c (Looked which x) = inr record {
  leaves = λ w. refl;
  last = λ l. refl;
  quiet = λ before l f z q. q;
}
puts_or_passes c (Met name count) = inr record {
  leaves = λ w. refl;
  last = λ l. refl;
  quiet = λ before l f z q. q;
}

-- no touch of the list stores into the cell
record IsFresh (c : ℕ) (order : List TouchBy) : Type 0 where
  nothing : held c order ≡ 0
  none : (i : ℕ) → last_store c (touches_of i order) ≡ None
  quiet : (i : ℕ) → IsQuiet c (touches_of i order)

-- or this rider stored there last
record IsNewest (c n : ℕ) (order : List TouchBy) : Type 0 where
  rider : ℕ
  less : rider < n
  last : last_store c (touches_of rider order) ≡ Some (held c order)

-- of a list that has the touch or not
pub last_either : (c : ℕ) (t : Touch) (l : List Touch) → last_store c (t ∷ l) ≡ last_store c l → (b : Bool) → last_store c (if b then t ∷ l else l) ≡ last_store c l
last_either c t l h true = h
last_either c t l h false = refl

quiet_either : (c : ℕ) (t : Touch) (l : List Touch) → (IsQuiet c l → IsQuiet c (t ∷ l)) → IsQuiet c l → (b : Bool) → IsQuiet c (if b then t ∷ l else l)
quiet_either c t l f h true = f h
quiet_either c t l f h false = h

has_more : (c v : ℕ) (t : Touch) (l : List Touch) → HasStore c v l → HasStore c v (t ∷ l)
has_more c v (Stored d w) l h = inr h
has_more c v (Loaded d w) l h = h
has_more c v (Changed d found w) l h = inr h
has_more c v (Called met left) l h = h
has_more c v (Looked which x) l h = h
has_more c v (Met name count) l h = h

has_either : (c v : ℕ) (t : Touch) (l : List Touch) → HasStore c v l → (b : Bool) → HasStore c v (if b then t ∷ l else l)
has_either c v t l h true = has_more c v t l h
has_either c v t l h false = h

fresh_or_newest : (c n : ℕ) (order : List TouchBy) → IsSerial order → Every (λ (t : TouchBy). t.rider < n) order → IsFresh c order ⊎ IsNewest c n order
fresh_or_newest c n [] h e = inl record { nothing = refl; none = λ i. refl; quiet = λ i. tt }
fresh_or_newest c n (t ∷ before) h e = ⊎_elim puts (passes (fresh_or_newest c n before h.1 e.1)) (puts_or_passes c t.touch)
  where
    puts : Puts c t.touch → IsFresh c (t ∷ before) ⊎ IsNewest c n (t ∷ before)
    puts p = inr record {
      rider = t.rider;
      less = e.0;
      last = ap (last_store c) (own_more t.rider t.touch before) ∙ p.last (touches_of t.rider before) ∙ ap Some (sym (p.leaves (held c before)));
    }

    passes : IsFresh c before ⊎ IsNewest c n before → Passes c t.touch → IsFresh c (t ∷ before) ⊎ IsNewest c n (t ∷ before)
    passes sooner p = ⊎_elim
        (λ (z : IsFresh c before). inl record {
          nothing = p.leaves (held c before) ∙ z.nothing;
          none = λ i. last_either c t.touch (touches_of i before) (p.last (touches_of i before)) (t.rider == i) ∙ z.none i;
          quiet = λ i. quiet_either c t.touch (touches_of i before) (p.quiet before (touches_of i before) h.0 z.nothing) (z.quiet i) (t.rider == i);
        })
        (λ (s : IsNewest c n before). inr record {
          rider = s.rider;
          less = s.less;
          last = last_either c t.touch (touches_of s.rider before) (p.last (touches_of s.rider before)) (t.rider == s.rider) ∙ s.last ∙ ap Some (sym (p.leaves (held c before)));
        })
        sooner

-- a last store is a store
last_has : (c v : ℕ) (l : List Touch) → last_store c l ≡ Some v → HasStore c v l
last_has c v [] e = absurd cc
last_has c v (Stored d w ∷ before) e = by (d == c) refl e (last_has c v before)
  where
    by : (b : Bool) → (d == c) ≡ b → (if b then Some w else last_store c before) ≡ Some v → (last_store c before ≡ Some v → HasStore c v before) → ((d ≡ c) × (w ≡ v)) ⊎ HasStore c v before
    by true same is rest = inl (eqb-true d c same, cc is)
    by false same is rest = inr (rest is)
last_has c v (Loaded d w ∷ before) e = last_has c v before e
last_has c v (Changed d found w ∷ before) e = by (d == c) refl e (last_has c v before)
  where
    by : (b : Bool) → (d == c) ≡ b → (if b then Some w else last_store c before) ≡ Some v → (last_store c before ≡ Some v → HasStore c v before) → ((d ≡ c) × (w ≡ v)) ⊎ HasStore c v before
    by true same is rest = inl (eqb-true d c same, cc is)
    by false same is rest = inr (rest is)
last_has c v (Called met left ∷ before) e = last_has c v before e
last_has c v (Looked which x ∷ before) e = last_has c v before e
last_has c v (Met name count ∷ before) e = last_has c v before e

-- what stands in the cell before one of the rider's touches is lawful for it
found_lawful : (E : ℕ → ℕ → Type 0) (i n : ℕ) (before : List TouchBy) → ((c v j : ℕ) → j ≢ i → j < n → HasStore c v (touches_of j before) → E c v) → IsSerial before → Every (λ (t : TouchBy). t.rider < n) before
    → (d v : ℕ) → v ≡ held d before → IsFound E d v (touches_of i before)
found_lawful E i n before there_too h e d v is =
    ⊎_elim
    (λ (z : IsFresh d before). inr (inr (is ∙ z.nothing, z.quiet i)))
    (λ (s : IsNewest d n before).
    let last : last_store d (touches_of s.rider before) ≡ Some v = s.last ∙ ap Some (sym is) in
    ⊎_elim
    (λ (same : s.rider ≡ i). inl (subst (λ (k : ℕ). last_store d (touches_of k before) ≡ Some v) same last))
    (λ (apart : s.rider ≢ i). inr (inl (there_too d v s.rider apart s.less (last_has d v (touches_of s.rider before) last))))
    (cases_eq s.rider i))
    (fresh_or_newest d n before h e)

own_lawful : (E : ℕ → ℕ → Type 0) (i n : ℕ) (order : List TouchBy) → ((c v j : ℕ) → j ≢ i → j < n → HasStore c v (touches_of j order) → E c v) → IsSerial order → Every (λ (t : TouchBy). t.rider < n) order → IsLawful E (touches_of i order)
own_lawful E i n [] there_too h e = tt
own_lawful E i n (t ∷ before) there_too h e = by (t.rider == i) t.touch h.0 (own_lawful E i n before sooner h.1 e.1)
  where
    sooner : (c v j : ℕ) → j ≢ i → j < n → HasStore c v (touches_of j before) → E c v
    sooner c v j apart less s = there_too c v j apart less (has_either c v t.touch (touches_of j before) s (t.rider == j))

    by : (b : Bool) (x : Touch) → Finds before x → IsLawful E (touches_of i before) → IsLawful E (if b then x ∷ touches_of i before else touches_of i before)
    by false x f rest = rest
    by true (Stored d v) f rest = rest
    by true (Loaded d v) f rest = (found_lawful E i n before sooner h.1 e.1 d v f, rest)
    by true (Changed d found v) f rest = (found_lawful E i n before sooner h.1 e.1 d found f, rest)
    by true (Called met left) f rest = rest
    by true (Looked which x) f rest = rest
    by true (Met name count) f rest = rest

module _ (cells : ℕ) (words : List ℕ) (riders : List RiderView) (h : HasOneOrder cells words riders) where
  -- each cell is 0, or some rider's last store
  pub cell_from : (c : ℕ) → c < cells → IsCell riders c (slice_index words c)
  cell_from c below =
      ⊎_elim
      (λ (z : IsFresh c h.0). inl (h.1.last c below ∙ z.nothing, λ i r at. ap (last_store c) (h.1.each i r at) ∙ z.none i))
      (λ (s : IsNewest c (length riders) h.0).
      let one = there riders s.rider s.less in
      inr (s.rider, one.0, one.1, ap (last_store c) (h.1.each s.rider one.0 one.1) ∙ s.last ∙ ap Some (sym (h.1.last c below))))
      (fresh_or_newest c (length riders) h.0 h.1.serial h.1.theirs)

  -- each rider's list is lawful
  pub lawful_from : EachRider (λ i r. IsLawful (IsElsewhere riders i) r.touches) riders
  lawful_from i r at =
      subst (IsLawful (IsElsewhere riders i)) (sym (h.1.each i r at)) (own_lawful (IsElsewhere riders i) i (length riders) h.0 stands h.1.serial h.1.theirs)
    where
      stands : (c v j : ℕ) → j ≢ i → j < length riders → HasStore c v (touches_of j h.0) → IsElsewhere riders i c v
      stands c v j apart less s =
          let one = there riders j less in
          (j, one.0, one.1, (apart, subst (HasStore c v) (sym (h.1.each j one.0 one.1)) s))
