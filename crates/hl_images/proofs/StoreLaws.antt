-- Where a rider's store stands among its touches: the call that it was made after, and the one that entered it.
use Rattle.std.proofs.Common.{◌≡◌, ℕ, zero, suc, List, [], ◌∷◌, ◌++◌, length, Some, slice_get, refl, ap, sym, ◌∙◌, inl, inr, length-append}
use Rattle.std.specs.List.{AllByRecursion as Every}
use Rattle.hl_model.specs.declared.step.Step.TheVariants.{CleanDone}
use Rattle.hl_model.specs.Sizes.{Sizes}
use Rattle.hl_history.specs.declared.view.Entry.{Entry}
use Rattle.hl_history.specs.Lists.{left_by}
use Rattle.hl_words.specs.declared.view.Extent.{Extent}
use Rattle.hl_words.specs.declared.view.Touch.{Touch}
use Rattle.hl_words.specs.declared.view.Touch.TheVariants.{Stored, Called}
use Rattle.hl_words.specs.States.{AreTied}
use Rattle.hl_images.specs.Entered.{IsSweepOf, HasZero, IsSwept, FreesSwept}

-- A call of a rider among the touches, with what stands before it
pub record CallAt (sizes : Sizes) (Q : Entry → Type 0) (ts : List Touch) (e : Entry) : Type 0 where
  pub late : List Touch
  pub met : Extent
  pub left : Extent
  pub before : List Touch
  pub earlier : List Entry
  pub all : ts ≡ late ++ Called met left ∷ before
  pub met_is : met.steps ≡ length e.before
  pub left_is : left.steps ≡ length (left_by e)
  pub tied : AreTied before earlier
  pub holds : Every Q earlier
  pub swept : (p : ℕ) → e.steps ≡ CleanDone p ∷ [] → IsSwept sizes p before earlier

push_at : (sizes : Sizes) (Q : Entry → Type 0) (t : Touch) (ts : List Touch) (e : Entry) → CallAt sizes Q ts e → CallAt sizes Q (t ∷ ts) e
push_at sizes Q t ts e h =
    record {
      late = t ∷ h.late;
      met = h.met;
      left = h.left;
      before = h.before;
      earlier = h.earlier;
      all = ap (λ (l : List Touch). t ∷ l) h.all;
      met_is = h.met_is;
      left_is = h.left_is;
      tied = h.tied;
      holds = h.holds;
      swept = h.swept;
    }

pub find_call : (sizes : Sizes) (Q : Entry → Type 0) (i : ℕ) (e : Entry) (ts : List Touch) (calls : List Entry) → slice_get calls i ≡ Some e → AreTied ts calls → FreesSwept sizes ts calls → Every Q calls → CallAt sizes Q ts e
find_call sizes Q i e [] [] at tied frees holds = absurd cc
find_call sizes Q i e [] (call ∷ calls) at tied frees holds = absurd tied
find_call sizes Q i e (Called met left ∷ before) [] at tied frees holds = absurd tied
find_call sizes Q zero e (Called met left ∷ before) (call ∷ calls) at tied frees holds =
    let same : call ≡ e = cc at in
    record {
      late = [];
      met = met;
      left = left;
      before = before;
      earlier = calls;
      all = refl;
      met_is = tied.0 ∙ ap (λ (x : Entry). length x.before) same;
      left_is = tied.1 ∙ sym (length-append call.before call.steps) ∙ ap (λ (x : Entry). length (left_by x)) same;
      tied = tied.2;
      holds = holds.1;
      swept = λ p is. frees.0 p (ap (λ (x : Entry). x.steps) same ∙ is);
    }
find_call sizes Q (suc i) e (Called met left ∷ before) (call ∷ calls) at tied frees holds = push_at sizes Q (Called met left) before e (find_call sizes Q i e before calls at tied.2 frees.1 holds.1)
find_call sizes Q i e (t ∷ before) calls at tied frees holds = push_at sizes Q t before e (find_call sizes Q i e before calls at tied frees holds)

-- the 0 of a page's sweep in a cell
pub record ZeroAt (sizes : Sizes) (Q : Entry → Type 0) (p d : ℕ) (ts : List Touch) : Type 0 where
  pub late : List Touch
  pub value : ℕ
  pub before : List Touch
  pub calls : List Entry
  pub all : ts ≡ late ++ Stored d value ∷ before
  pub sweep : IsSweepOf sizes p d value calls
  pub tied : AreTied before calls
  pub holds : Every Q calls

push_zero : (sizes : Sizes) (Q : Entry → Type 0) (p d : ℕ) (t : Touch) (ts : List Touch) → ZeroAt sizes Q p d ts → ZeroAt sizes Q p d (t ∷ ts)
push_zero sizes Q p d t ts h = record { late = t ∷ h.late; value = h.value; before = h.before; calls = h.calls; all = ap (λ (l : List Touch). t ∷ l) h.all; sweep = h.sweep; tied = h.tied; holds = h.holds }

pub find_zero : (sizes : Sizes) (Q : Entry → Type 0) (p d : ℕ) (ts : List Touch) (calls : List Entry) → HasZero sizes p d ts calls → AreTied ts calls → Every Q calls → ZeroAt sizes Q p d ts
find_zero sizes Q p d [] calls h tied holds = absurd h
find_zero sizes Q p d (Stored x v ∷ before) calls (inl h) tied holds =
    record { late = []; value = v; before = before; calls = calls; all = ap (λ (z : ℕ). Stored z v ∷ before) h.0; sweep = h.1; tied = tied; holds = holds }
find_zero sizes Q p d (Stored x v ∷ before) calls (inr h) tied holds = push_zero sizes Q p d (Stored x v) before (find_zero sizes Q p d before calls h tied holds)
find_zero sizes Q p d (Called met left ∷ before) [] h tied holds = absurd h
find_zero sizes Q p d (Called met left ∷ before) (call ∷ calls) h tied holds = push_zero sizes Q p d (Called met left) before (find_zero sizes Q p d before calls h tied.2 holds.1)
find_zero sizes Q p d (t ∷ before) calls h tied holds = push_zero sizes Q p d t before (find_zero sizes Q p d before calls h tied holds)
