-- Which call entered a step of the one list, and each rider's calls and view at its place.
use Rattle.std.proofs.Common.{◌≡◌, ℕ, zero, suc, ◌+◌, ◌<◌, ◌≤◌, Bool, true, false, List, [], ◌∷◌, ◌++◌, length, map, Some, slice_get, refl, ap, ◌∙◌, subst, arith}
use Rattle.std.specs.Prelude.{nat_le, nat_lt, ◌&&◌, if◌then◌else◌}
use Rattle.std.specs.List.{sum_by}
use Rattle.std.specs.Option.{option_map}
use Rattle.std.proofs.lemmas.Bool.{ltb-true, leb-true}
use Rattle.std.proofs.lemmas.List.Sums.{sum_by-cons}
use Rattle.std.proofs.lemmas.Option.{slice_get-map, slice_get_within}
use Rattle.hl_model.specs.declared.step.Step.{Step}
use Rattle.hl_history.specs.declared.view.Entry.{Entry}
use Rattle.hl_history.specs.Lists.{Begins, left_by, enters_at, entered_at, IsOf, IsOneList}
use Rattle.hl_words.specs.declared.view.RiderView.{RiderView}
use Rattle.hl_words.specs.States.{RiderState}
use Rattle.hl_words.proofs.Cut.{every_at}

module _ {X : Type 0} where
  -- a sum that isn't 0 has a part that isn't
  some_positive : (f : X → ℕ) (xs : List X) → 0 < sum_by f xs → (i : ℕ) × (x : X) × (slice_get xs i ≡ Some x) × (0 < f x)
  some_positive f [] h = absurd (omega (arith, h))
  some_positive f (x ∷ xs) h = by (f x) refl (λ k. some_positive f xs k)
    where
      by : (n : ℕ) → f x ≡ n → (0 < sum_by f xs → (i : ℕ) × (y : X) × (slice_get xs i ≡ Some y) × (0 < f y)) → (i : ℕ) × (y : X) × (slice_get (x ∷ xs) i ≡ Some y) × (0 < f y)
      by zero e rest = let s = rest (omega (arith, h, sum_by-cons f x xs, e)) in (suc s.0, s.1, s.2, s.3)
      by (suc n) e rest = (0, x, refl, omega (arith, e))

  in_front : (xs ys : List X) (p : ℕ) (x : X) → slice_get (xs ++ ys) p ≡ Some x → p < length xs → slice_get xs p ≡ Some x
  in_front [] ys p x e less = absurd (omega (arith, less))
  in_front (y ∷ xs) ys zero x e less = e
  in_front (y ∷ xs) ys (suc p) x e less = in_front xs ys p x e (omega (arith, less))

  in_middle : (xs ys zs : List X) (p : ℕ) (x : X) → slice_get ((xs ++ ys) ++ zs) p ≡ Some x → length xs ≤ p → p < length xs + length ys → (i : ℕ) × (slice_get ys i ≡ Some x)
  in_middle [] ys zs p x e le less = (p, in_front ys zs p x e (omega (arith, less)))
  in_middle (y ∷ xs) ys zs zero x e le less = absurd (omega (arith, le))
  in_middle (y ∷ xs) ys zs (suc p) x e le less = in_middle xs ys zs p x e (omega (arith, le)) (omega (arith, less))

-- the call that entered a step entered it at a place of its own
enters_range : (p : ℕ) (e : Entry) → 0 < enters_at p e → (length e.before ≤ p) × (p < length e.before + length e.steps)
enters_range p e h = by (nat_le (length e.before) p) refl (nat_lt p (length e.before + length e.steps)) refl h
  where
    by : (b : Bool) → nat_le (length e.before) p ≡ b → (d : Bool) → nat_lt p (length e.before + length e.steps) ≡ d → 0 < (if b && d then 1 else 0) → (length e.before ≤ p) × (p < length e.before + length e.steps)
    by true x true y k = (leb-true (length e.before) p x, ltb-true p (length e.before + length e.steps) y)
    by true x false y k = absurd (omega (arith, k))
    by false x true y k = absurd (omega (arith, k))
    by false x false y k = absurd (omega (arith, k))

-- the call that entered the step at a place of the one list
pub record EnteredAt (records : List (List Entry)) (p : ℕ) (x : Step) : Type 0 where
  pub whose : ℕ
  pub calls : List Entry
  pub record_at : slice_get records whose ≡ Some calls
  pub number : ℕ
  pub call : Entry
  pub call_at : slice_get calls number ≡ Some call
  pub low : length call.before ≤ p
  pub high : p < length call.before + length call.steps
  pub step : ℕ
  pub step_at : slice_get call.steps step ≡ Some x

pub entered_call : (list : List Step) (records : List (List Entry)) → IsOneList list records → (p : ℕ) (x : Step) → slice_get list p ≡ Some x → EnteredAt records p x
entered_call list records one p x here =
    let l = some_positive (entered_at p) records (omega (arith, one.once p (slice_get_within list p x here))) in
    let e = some_positive (enters_at p) l.1 l.3 in
    let range = enters_range p e.1 e.3 in
    let of_l : IsOf list l.1 = every_at (IsOf list) records one.each l.0 l.1 l.2 in
    let starts : Begins (left_by e.1) list = every_at (λ (x : Entry). Begins (left_by x) list) l.1 of_l.begins e.0 e.1 e.2 in
    let inside = in_middle e.1.before e.1.steps starts.0 p x (subst (λ (z : List Step). slice_get z p ≡ Some x) starts.1 here) range.0 range.1 in
    record { whose = l.0; calls = l.1; record_at = l.2; number = e.0; call = e.1; call_at = e.2; low = range.0; high = range.1; step = inside.0; step_at = inside.1 }

-- an element of a row that was mapped
pub mapped_at : {X Y : Type 0} (f : X → Y) (xs : List X) (i : ℕ) (y : Y) → slice_get (map f xs) i ≡ Some y → (x : X) × (slice_get xs i ≡ Some x) × (f x ≡ y)
mapped_at f [] i y e = absurd cc
mapped_at f (x ∷ xs) zero y e = let is : f x ≡ y = cc e in (x, refl, is)
mapped_at f (x ∷ xs) (suc i) y e = mapped_at f xs i y e

-- a rider's calls and its view at its place
pub calls_at : (riders : List RiderState) (i : ℕ) (r : RiderState) → slice_get riders i ≡ Some r → slice_get (map (λ (q : RiderState). q.calls) riders) i ≡ Some r.calls
calls_at riders i r e = slice_get-map (λ (q : RiderState). q.calls) riders i ∙ ap (option_map (λ (q : RiderState). q.calls)) e

pub view_at : (riders : List RiderState) (i : ℕ) (r : RiderState) → slice_get riders i ≡ Some r → slice_get (map (λ (q : RiderState). q.view) riders) i ≡ Some r.view
view_at riders i r e = slice_get-map (λ (q : RiderState). q.view) riders i ∙ ap (option_map (λ (q : RiderState). q.view)) e

pub whose_calls : (riders : List RiderState) (i : ℕ) (d : List Entry) → slice_get (map (λ (q : RiderState). q.calls) riders) i ≡ Some d → (r : RiderState) × (slice_get riders i ≡ Some r) × (r.calls ≡ d)
whose_calls riders i d e = mapped_at (λ (q : RiderState). q.calls) riders i d e

pub whose_view : (riders : List RiderState) (i : ℕ) (v : RiderView) → slice_get (map (λ (q : RiderState). q.view) riders) i ≡ Some v → (r : RiderState) × (slice_get riders i ≡ Some r) × (r.view ≡ v)
whose_view riders i v e = mapped_at (λ (q : RiderState). q.view) riders i v e
