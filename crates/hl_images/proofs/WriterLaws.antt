-- The newest writes of steps, and calls among touches.
use Rattle.std.proofs.Common.{◌≡◌, ℕ, ◌<◌, ◌≤◌, ◌==◌, ◌⊎◌, Bool, true, false, List, [], ◌∷◌, ◌++◌, length, Some, None, slice_get, refl, ap, sym, ◌∙◌, inl, inr, ⊎_elim, arith, append_assoc, length-append}
use Rattle.std.specs.Prelude.{Option, if◌then◌else◌}
use Rattle.std.specs.List.{AllByRecursion as Every}
use Rattle.std.proofs.lemmas.Bool.{eqb-true, cases_lt}
use Rattle.hl_model.specs.declared.step.Step.{Step}
use Rattle.hl_model.specs.declared.step.Step.TheVariants.{Write}
use Rattle.hl_model.specs.Words.{written_at}
use Rattle.hl_history.specs.declared.view.Entry.{Entry}
use Rattle.hl_history.specs.Lists.{left_by}
use Rattle.hl_words.specs.declared.view.Extent.{Extent}
use Rattle.hl_words.specs.declared.view.Touch.{Touch}
use Rattle.hl_words.specs.declared.view.Touch.TheVariants.{Called}
use Rattle.hl_words.specs.declared.view.RiderView.{RiderView}
use Rattle.hl_words.specs.Past.{HasNoCalls}
use Rattle.hl_words.specs.Rule.{TouchBy, touches_of}
use Rattle.hl_words.specs.States.{AreTied}
use Rattle.hl_images.specs.Entered.{newest_writes}
use Rattle.hl_images.specs.Writes.{WritesNothing}

-- the newest write of some steps
pub newest_step : (a : ℕ) (steps : List Step) → WritesNothing a steps ⊎ ((slot v : ℕ) × (first rest : List Step) × (steps ≡ first ++ Write slot a v ∷ rest) × WritesNothing a rest)
newest_step a [] = inl tt
newest_step a (s ∷ steps) = by (newest_step a steps)
  where
    other : (s : Step) → WritesNothing a steps → (o : Option ℕ) → written_at a s ≡ o → WritesNothing a (s ∷ steps) ⊎ ((slot v : ℕ) × (first rest : List Step) × (s ∷ steps ≡ first ++ Write slot a v ∷ rest) × WritesNothing a rest)
    other s none None e = inl (e, none)
    other (Write t b v) none (Some x) e = test (b == a) refl
      where
        test : (y : Bool) → (b == a) ≡ y → WritesNothing a (Write t b v ∷ steps) ⊎ ((slot u : ℕ) × (first rest : List Step) × (Write t b v ∷ steps ≡ first ++ Write slot a u ∷ rest) × WritesNothing a rest)
        test true h = inr (t, v, [], steps, ap (λ (z : ℕ). Write t z v ∷ steps) (eqb-true b a h), none)
        test false h = inl (ap (λ (y : Bool). if y then Some v else None) h, none)
    other _ none (Some x) e = absurd cc

    by : WritesNothing a steps ⊎ ((slot v : ℕ) × (first rest : List Step) × (steps ≡ first ++ Write slot a v ∷ rest) × WritesNothing a rest) → WritesNothing a (s ∷ steps) ⊎ ((slot v : ℕ) × (first rest : List Step) × (s ∷ steps ≡ first ++ Write slot a v ∷ rest) × WritesNothing a rest)
    by (inl none) = other s none (written_at a s) refl
    by (inr h) = inr (h.0, h.1, s ∷ h.2, h.3, ap (λ (l : List Step). s ∷ l) h.4, h.5)

-- what holds of each step holds of each of the newest writes
pub newest_every : (P : Step → Type 0) (steps older : List Step) → Every P steps → Every P older → Every P (newest_writes steps older)
newest_every P [] older h k = k
newest_every P (Write t a v ∷ steps) older h k = newest_every P steps (Write t a v ∷ older) h.1 (h.0, k)
newest_every P (_ ∷ steps) older h k = newest_every P steps older h.1 k

-- the newest writes of two lists of steps
pub writes_both : (xs ys older : List Step) → newest_writes (xs ++ ys) older ≡ newest_writes ys (newest_writes xs older)
writes_both [] ys older = refl
writes_both (Write t a v ∷ xs) ys older = writes_both xs ys (Write t a v ∷ older)
writes_both (_ ∷ xs) ys older = writes_both xs ys older

-- the newest call among some touches
pub next_call : (ts : List Touch) (e : Entry) (older : List Entry) → AreTied ts (e ∷ older) → (front : List Touch) × (met left : Extent) × (rest : List Touch) × (ts ≡ front ++ Called met left ∷ rest) × (left.steps ≡ length (left_by e)) × (met.steps ≡ length e.before)
next_call [] e older h = absurd h
next_call (Called met left ∷ before) e older h = ([], met, left, before, refl, h.1 ∙ sym (length-append e.before e.steps), h.0)
next_call (t ∷ before) e older h = let n = next_call before e older h in (t ∷ n.0, n.1, n.2, n.3, ap (λ (l : List Touch). t ∷ l) n.4, n.5, n.6)

-- What stands before no call that met more than n steps: no call there met more
pub early : (riders : List RiderView) (before : List TouchBy) (n j : ℕ) (q : RiderView) (xs ys : List Touch) → HasNoCalls riders n before → slice_get riders j ≡ Some q → q.touches ≡ xs ++ ys → length ys ≡ length (touches_of j before)
    → (newer : List Touch) (met left : Extent) (rest : List Touch) → ys ≡ newer ++ Called met left ∷ rest → met.steps ≤ n
early riders before n j q xs ys calls at all long newer met left rest is =
    ⊎_elim
    (λ (lt : n < met.steps).
    let only = calls j met left q (xs ++ newer) rest at (all ∙ ap (λ (l : List Touch). xs ++ l) is ∙ sym (append_assoc xs newer (Called met left ∷ rest))) lt in
    absurd (omega (arith, ap length is, length-append newer (Called met left ∷ rest), long, ap length only.1, length-append only.0 (touches_of j before))))
    (λ (le : met.steps ≤ n). le)
    (cases_lt n met.steps)

-- so do their records tell
pub early_calls : (n : ℕ) (ts : List Touch) (calls : List Entry) → ((newer : List Touch) (met left : Extent) (rest : List Touch) → ts ≡ newer ++ Called met left ∷ rest → met.steps ≤ n) → AreTied ts calls → Every (λ (e : Entry). length e.before ≤ n) calls
early_calls n [] [] h tied = tt
early_calls n [] (call ∷ calls) h tied = absurd tied
early_calls n (Called met left ∷ ts) [] h tied = absurd tied
early_calls n (Called met left ∷ ts) (call ∷ calls) h tied = (
  omega (arith, h [] met left ts refl, tied.0),
  early_calls n ts calls (λ f m l r e. h (Called met left ∷ f) m l r (ap (λ (x : List Touch). Called met left ∷ x) e)) tied.2,
)
early_calls n (t ∷ ts) calls h tied = early_calls n ts calls (λ f m l r e. h (t ∷ f) m l r (ap (λ (x : List Touch). t ∷ x) e)) tied
