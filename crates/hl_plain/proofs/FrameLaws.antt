-- The pages of a frame, and their marks.
use Rattle.std.proofs.Common.{◌≡◌, ◌≢◌, ℕ, zero, suc, ◌+◌, ◌-◌, ◌*◌, ◌/◌, ◌%◌, ◌<◌, ◌≤◌, ltb, Bool, true, false, ◌&&◌, List, Some, None, refl, sym, ap, ap₂, ◌∙◌, arith, inl, inr, ne_eqb, eq-eqb}
use Rattle.std.specs.Prelude.{◌==◌}
use Rattle.std.proofs.lemmas.Bool.{cases_eq, cases_lt, lt-ltb, le-ltb}
use Rattle.std.proofs.lemmas.Nat.{mod-mul-add}
use Rattle.std.proofs.Math.Nat.{mul-le-mul_right, mod-le}
use Rattle.hl_model.specs.Lists.{greatest_below}
use Rattle.hl_model.specs.declared.frame.Held.{Held}
use Rattle.hl_model.specs.declared.step.Step.{Step}
use Rattle.hl_model.specs.Pages.{Mark}
use Rattle.hl_model.specs.Bases.{Base}
use Rattle.hl_model.specs.AfterOffsets.{tail_after}
use Rattle.hl_model.specs.AfterPages.{is_complete_after, is_out_after, marks_after, flushing_after, cleaning_after, last_entered_after, marked_after}
use Rattle.hl_model.proofs.SearchLaws.{le-div}
use Rattle.hl_plain.specs.declared.pages.Work.TheVariants.{Flushing, Cleaning}
use Rattle.hl_plain.specs.Works.{begun_of}

-- page p is entered, and lies in frame f
abbrev pub is_entered_in : Base → ℕ → List Step → ℕ → Bool
is_entered_in b f L p = ltb (p * b.sizes.page_size) (tail_after b L) && p % b.sizes.frames == f

-- where one number passes and none between it and the end does, it is the greatest
greatest_below-is : (p : ℕ → Bool) (n i : ℕ) → i < n → p i ≡ true → ((q : ℕ) → i < q → q < n → p q ≡ false) → greatest_below p n ≡ Some i
unfolding greatest_below
greatest_below-is p zero i within passes fails = absurd (omega arith)
greatest_below-is p (suc n) i within passes fails =
    elim (cases_eq i n) [
      | inl same ↦ rw (sym same, passes) refl
      | inr other ↦ rw (fails n (omega arith) (omega arith)) (greatest_below-is p n i (omega arith) passes (λ q above below. fails q above (omega arith)))
    ]

-- where none passes there is none
greatest_below-none : (p : ℕ → Bool) (n : ℕ) → ((q : ℕ) → q < n → p q ≡ false) → greatest_below p n ≡ None
unfolding greatest_below
greatest_below-none p zero fails = refl
greatest_below-none p (suc n) fails = rw (fails n (omega arith)) (greatest_below-none p n (λ q below. fails q (omega arith)))

-- a page up to the last begins below the tail
begins-below : (n end q : ℕ) → 0 < n → 0 < end → q ≤ (end - 1) / n → q * n < end
begins-below n end q some any most = omega (arith, mul-le-mul_right n most)

-- and a later one doesn't
begins-past : (n end q : ℕ) → 0 < n → (end - 1) / n < q → end ≤ q * n
begins-past n end q some more =
    let least : ((end - 1) / n + 1) * n ≤ q * n = mul-le-mul_right n (omega arith) in
    omega (arith, least)

-- the last page before the tail is no later than the tail's
last-page : (n end : ℕ) → 0 < n → (end - 1) / n ≤ end / n
last-page n end some = le-div n ((end - 1) / n) end some (omega arith)

-- the last page of a frame up to some page lies in the frame
in-frame : (n f last : ℕ) → f < n → f ≤ last → (last - (last - f) % n) % n ≡ f
in-frame n f last within most =
    let is : last - (last - f) % n ≡ (last - f) / n * n + f = omega arith in
    ap (λ p. p % n) is ∙ mod-mul-add ((last - f) / n) n f within

-- and no page between these does
out-of-frame : (n f last q : ℕ) → f < n → f ≤ last → last - (last - f) % n < q → q ≤ last → q % n ≢ f
out-of-frame n f last q within most above below same = elim (cases_lt ((last - f) / n) (q / n)) [
  | inl later ↦
      let least : ((last - f) / n + 1) * n ≤ q / n * n = mul-le-mul_right n (omega arith) in
      omega (arith, least)
  | inr sooner ↦
      let more : q / n * n ≤ (last - f) / n * n = mul-le-mul_right n sooner in
      omega (arith, more)
]

-- so that page is the greatest entered one of the frame, where the last is the last entered page
pub entered-last : (b : Base) (f : ℕ) (L : List Step) (last p : ℕ) → 0 < b.sizes.page_size → f < b.sizes.frames → 0 < tail_after b L → last ≡ (tail_after b L - 1) / b.sizes.page_size → f ≤ last → p ≡ last - (last - f) % b.sizes.frames → Some p ≡ last_entered_after b f L
unfolding last_entered_after
entered-last b f L last p some within any ends most is =
    sym (greatest_below-is (is_entered_in b f L) (tail_after b L / b.sizes.page_size + 1) p (omega (arith, last-page b.sizes.page_size (tail_after b L) some))
    (ap₂ (λ x y. x && y) (lt-ltb (p * b.sizes.page_size) (tail_after b L) (begins-below b.sizes.page_size (tail_after b L) p some any (omega arith)))
    (eq-eqb (p % b.sizes.frames) f (ap (λ p. p % b.sizes.frames) is ∙ in-frame b.sizes.frames f last within most)))
    fails)
  where
    fails : (q : ℕ) → p < q → q < tail_after b L / b.sizes.page_size + 1 → is_entered_in b f L q ≡ false
    fails q above below = elim (cases_lt last q) [
      | inl past ↦ ap (λ x. x && q % b.sizes.frames == f) (le-ltb (q * b.sizes.page_size) (tail_after b L) (begins-past b.sizes.page_size (tail_after b L) q some (omega arith)))
      | inr most ↦ ap₂ (λ x y. x && y) (lt-ltb (q * b.sizes.page_size) (tail_after b L) (begins-below b.sizes.page_size (tail_after b L) q some any (omega arith)))
          (ne_eqb (q % b.sizes.frames) f (out-of-frame b.sizes.frames f last q within (omega arith) (omega arith) most))
    ]

-- where only pages below f are entered, none is of frame f
entered-none : (b : Base) (f : ℕ) (L : List Step) → ((q : ℕ) → q * b.sizes.page_size < tail_after b L → q < f) → None ≡ last_entered_after b f L
unfolding last_entered_after
entered-none b f L fewer = sym (greatest_below-none (is_entered_in b f L) (tail_after b L / b.sizes.page_size + 1) fails)
  where
    fails : (q : ℕ) → q < tail_after b L / b.sizes.page_size + 1 → is_entered_in b f L q ≡ false
    fails q below = elim (cases_lt (q * b.sizes.page_size) (tail_after b L)) [
      | inl lt ↦ ap₂ (λ x y. x && y) (lt-ltb (q * b.sizes.page_size) (tail_after b L) lt)
          (ne_eqb (q % b.sizes.frames) f (λ same. omega (arith, mod-le q b.sizes.frames, fewer q lt)))
      | inr le ↦ ap (λ x. x && q % b.sizes.frames == f) (le-ltb (q * b.sizes.page_size) (tail_after b L) le)
    ]

-- so where the tail is 0
pub entered-empty : (b : Base) (f : ℕ) (L : List Step) → tail_after b L ≡ 0 → None ≡ last_entered_after b f L
entered-empty b f L none = entered-none b f L (λ q lt. absurd (omega arith))

-- and where f is past the last entered page
pub entered-few : (b : Base) (f : ℕ) (L : List Step) → 0 < b.sizes.page_size → (tail_after b L - 1) / b.sizes.page_size < f → None ≡ last_entered_after b f L
entered-few b f L some past = entered-none b f L (λ q lt. elim (cases_lt ((tail_after b L - 1) / b.sizes.page_size) q) [
  | inl more ↦ absurd (omega (arith, begins-past b.sizes.page_size (tail_after b L) q some more))
  | inr most ↦ omega arith
])

-- a page with its marks, as code tells them
pub marked-is : (b : Base) (L : List Step) (p : ℕ) (F C : List Mark) (flushed in_flight freed cleaning : Bool) → F ≡ marks_after (flushing_after b) L → C ≡ marks_after (cleaning_after b) L
    → flushed ≡ is_complete_after (begun_of b Flushing) p L → in_flight ≡ is_out_after (begun_of b Flushing) p F
    → freed ≡ is_complete_after (begun_of b Cleaning) p L → cleaning ≡ is_out_after (begun_of b Cleaning) p C
    → ◌≡◌ {A = Held} (record { page = p; flushed = flushed; in_flight = in_flight; freed = freed; cleaning = cleaning }) (marked_after b L p)
marked-is b L p F C flushed in_flight freed cleaning fs cs a o d u =
    let first : flushed ≡ is_complete_after (flushing_after b) p L = a in
    let second : in_flight ≡ is_out_after (flushing_after b) p (marks_after (flushing_after b) L) = o ∙ ap (is_out_after (flushing_after b) p) fs in
    let third : freed ≡ is_complete_after (cleaning_after b) p L = d in
    let fourth : cleaning ≡ is_out_after (cleaning_after b) p (marks_after (cleaning_after b) L) = u ∙ ap (is_out_after (cleaning_after b) p) cs in
    cc
