-- Two calls of one list, each of which made one bump: one met nothing, and the other what the first made.
use Rattle.std.proofs.Common.{◌≡◌, ℕ, ◌+◌, ◌<◌, ◌≤◌, ◌⊎◌, Bool, List, [], ◌∷◌, ◌++◌, length, refl, ap, sym, ◌∙◌, inl, inr, subst, arith, length-append}
use Rattle.std.specs.Prelude.{nat_lt, ◌&&◌, if◌then◌else◌}
use Rattle.std.proofs.lemmas.Bool.{lt-leb}
use Rattle.std.proofs.lemmas.List.Sums.{sum_by-cons}
use Rattle.hl_model.specs.declared.step.Step.{Step}
use Rattle.hl_model.specs.declared.step.Step.TheVariants.{Bare}
use Rattle.hl_model.specs.Sizes.{Sizes}
use Rattle.hl_model.specs.Actions.{bumps}
use Rattle.hl_model.specs.Epochs.{current_epoch}
use Rattle.hl_history.specs.declared.view.Entry.{Entry}
use Rattle.hl_history.specs.Lists.{entry, enters_at, entered_at, IsOneList}
use Rattle.hl_history.proofs.Calls.{to_front}
use Rattle.hl_words.specs.States.{RiderState}
use Rattle.hl_domain.specs.Domains.{IsEnding}
use Rattle.example_turns.specs.declared.Turns.{Turns}
use Rattle.example_turns.specs.Turns.{Bumped, IsInTurn}

-- a call that met this list, and made one bump there
abbrev bump_at : List Step → Entry
bump_at list = entry list (Bare ∷ [])

-- two records of calls, of one such call each, are of one list
abbrev AreBoth : List Step → List Step → List Step → Type 0
AreBoth A l m = IsOneList A ((bump_at l ∷ []) ∷ (bump_at m ∷ []) ∷ [])

-- a call that met a list with a step in it made no step at an earlier place
not_there : (u : Step) (us : List Step) (p : ℕ) → p < length (u ∷ us) → enters_at p (bump_at (u ∷ us)) ≡ 0
not_there u us p less =
    let f : Bool → ℕ = λ b. if b && nat_lt p (length (u ∷ us) + 1) then 1 else 0 in
    ap f (lt-leb (length (u ∷ us)) p less)

module _ (A : List Step) where
  -- one of the two calls made the step at each place
  once : (l m : List Step) → AreBoth A l m → (p : ℕ) → p < length A → enters_at p (bump_at l) + enters_at p (bump_at m) ≡ 1
  once l m h p less =
      let d = bump_at l in
      let e = bump_at m in
      omega (arith, h.once p less, sum_by-cons (entered_at p) (d ∷ []) ((e ∷ []) ∷ []), sum_by-cons (entered_at p) (e ∷ []) [], sum_by-cons (enters_at p) d [], sum_by-cons (enters_at p) e [])

  -- the list has the second call's step behind all that it met
  long : (l m : List Step) → AreBoth A l m → length m + 1 ≤ length A
  long l m h =
      let b = h.each.1.0.begins.0 in
      omega (arith, ap length b.1, length-append (m ++ Bare ∷ []) b.0, length-append m (Bare ∷ []))

  -- where the first call met nothing, the second met what the first made
  second : (m : List Step) → AreBoth A [] m → (m ≡ Bare ∷ []) × (A ≡ Bare ∷ Bare ∷ [])
  second [] h = absurd (omega (arith, once [] [] h 0 (long [] [] h)))
  second (z ∷ []) h = by_rest h.each.1.0.begins.0.0 h.each.1.0.begins.0.1
    where
      by_rest : (rest : List Step) → A ≡ (z ∷ Bare ∷ []) ++ rest → (z ∷ [] ≡ Bare ∷ []) × (A ≡ Bare ∷ Bare ∷ [])
      by_rest [] e =
          let same : z ≡ Bare = cc (sym e ∙ h.each.0.begins.0.1) in
          (ap (λ k. k ∷ []) same, e ∙ ap (λ k. k ∷ Bare ∷ []) same)
      by_rest (r ∷ rs) e = absurd (omega (arith, once [] (z ∷ []) h 2 (omega (arith, ap length e))))
  second (z ∷ w ∷ ms) h =
      let le = long [] (z ∷ w ∷ ms) h in
      absurd (omega (arith, once [] (z ∷ w ∷ ms) h 1 (omega (arith, le)), not_there z (w ∷ ms) 1 (omega arith)))

-- which of the two met what the other made
abbrev AreTurns : List Step → List Step → Type 0
AreTurns l m = ((l ≡ []) × (m ≡ Bare ∷ [])) ⊎ ((m ≡ []) × (l ≡ Bare ∷ []))

-- one of the two met nothing, and the one list is both bumps
turns : (A l m : List Step) → AreBoth A l m → AreTurns l m × (A ≡ Bare ∷ Bare ∷ [])
turns A [] m h = let s = second A m h in (inl (refl, s.0), s.1)
turns A (u ∷ us) [] h =
    let s = second A (u ∷ us) (to_front A ((bump_at (u ∷ us) ∷ []) ∷ []) (bump_at [] ∷ []) [] h) in
    (inr (refl, s.0), s.1)
turns A (u ∷ us) (v ∷ vs) h =
    let le = long A (u ∷ us) (v ∷ vs) h in
    absurd (omega (arith, once A (u ∷ us) (v ∷ vs) h 0 (omega (arith, le)), not_there u us 0 (omega arith), not_there v vs 0 (omega arith)))

-- the first bump is number 1
first_number : (n : ℕ) (l : List Step) → n ≡ bumps (l ++ Bare ∷ []) → l ≡ [] → n ≡ 1
unfolding bumps
first_number n l e same = e ∙ ap (λ k. bumps (k ++ Bare ∷ [])) same

-- the second is number 2
second_number : (n : ℕ) (l : List Step) → n ≡ bumps (l ++ Bare ∷ []) → l ≡ Bare ∷ [] → n ≡ 2
unfolding bumps
second_number n l e same = e ∙ ap (λ k. bumps (k ++ Bare ∷ [])) same

-- the current epoch after both is 3
third_epoch : (n : ℕ) (A : List Step) → n ≡ current_epoch A → A ≡ Bare ∷ Bare ∷ [] → n ≡ 3
unfolding current_epoch
third_epoch n A e same = e ∙ ap current_epoch same

-- what two riders were answered who bumped once each, and the current epoch where their domain was closed
pub in_turn : {F P : Type 0} (sizes : Sizes) (one two : RiderState) (t : Turns F P) → Bumped t.one one.calls → Bumped t.two two.calls → IsEnding sizes (one ∷ two ∷ []) t.ending → t.epoch ≡ t.ending.snapshot.epoch → IsInTurn sizes t
in_turn sizes one two t p q end e =
    let A : List Step = end.steps_cut ++ t.ending.journal in
    let first : IsOneList A (one.calls ∷ (bump_at q.list ∷ []) ∷ []) = subst (λ d. IsOneList A (one.calls ∷ d ∷ [])) q.calls_are end.one_list in
    let both : AreBoth A p.list q.list = subst (λ d. IsOneList A (d ∷ (bump_at q.list ∷ []) ∷ [])) p.calls_are first in
    let order = turns A p.list q.list both in
    let epoch : t.epoch ≡ current_epoch A = e ∙ ap (λ s. s.epoch) end.snapshot_is in
    record { one = one; two = two; first = p; second = q; ends = end; numbers = sides order.0; epoch_is = third_epoch t.epoch A epoch order.1 }
  where
    sides : AreTurns p.list q.list → ((t.one ≡ 1) × (t.two ≡ 2)) ⊎ ((t.two ≡ 1) × (t.one ≡ 2))
    sides (inl k) = inl (first_number t.one p.list p.number_is k.0, second_number t.two q.list q.number_is k.1)
    sides (inr k) = inr (first_number t.two q.list q.number_is k.0, second_number t.one p.list p.number_is k.1)
