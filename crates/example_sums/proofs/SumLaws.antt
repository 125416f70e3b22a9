-- What riders' touches of a cell add up to after a call, after an add, and at the end.
use Rattle.std.proofs.Common.{◌≡◌, ℕ, zero, suc, ◌+◌, ◌%◌, ◌^◌, ◌<◌, List, [], ◌∷◌, refl, sym, ap, ◌∙◌, subst, arith}
use Rattle.std.specs.Prelude.{Some, slice_get, slice_index}
use Rattle.std.specs.List.{sum}
use Rattle.std.proofs.lemmas.List.Sums.{sum_by-cons}
use Rattle.hl_model.specs.declared.step.Step.{Step}
use Rattle.hl_model.specs.Sizes.{Sizes}
use Rattle.hl_words.specs.declared.view.Touch.{Touch}
use Rattle.hl_words.specs.declared.view.RiderView.{RiderView}
use Rattle.hl_words.specs.Rule.{EachRider}
use Rattle.hl_words.specs.States.{RiderState}
use Rattle.hl_words.specs.Laws.{AddsUp, AddsAddUp, NoAddIsLost}
use Rattle.hl_keeper.specs.Passes.{PassRecord, cell_at, with_change}
use Rattle.hl_domain.specs.Domains.{with_entry, IsEnding}
use Rattle.example_sums.specs.declared.Sums.{Sums}
use Rattle.example_sums.specs.Adding.{AddsMore, AddsNothing, Added, AddedUp}

-- a call touches no cell
pub call_adds_nothing : (was now : ℕ) (list steps : List Step) (old new : RiderState) → new ≡ with_entry was now list steps old → AddsNothing old.view.touches new.view.touches
call_adds_nothing was now list steps old new is cell total h = subst (λ (r : RiderState). AddsUp cell total r.view.touches) (sym is) h

module _ (cell : ℕ) where
  -- nothing is a sum of 0
  pub none_more : (old new : List Touch) → ((total : ℕ) → AddsUp cell total old → AddsUp cell total new) → AddsMore cell 0 old new
  none_more old new h = record {
    more = 0;
    sum_is = refl;
    adds_up = λ total up. let same : total ≡ total + 0 = omega arith in subst (λ n. AddsUp cell n new) same (h total up);
  }

  -- the sum of two
  pub both_more : (s t both : ℕ) (old middle new : List Touch) → both ≡ (s + t) % 2 ^ 64 → AddsMore cell s old middle → AddsMore cell t middle new → AddsMore cell both old new
  both_more s t both old middle new is a b = record {
    more = a.more + b.more;
    sum_is = omega (arith, is, a.sum_is, b.sum_is);
    adds_up = λ total up.
        let same : (total + a.more) + b.more ≡ total + (a.more + b.more) = omega arith in
        subst (λ n. AddsUp cell n new) same (b.adds_up (total + a.more) (a.adds_up total up));
  }

-- an add that was not refused
pub one_more : AddsAddUp → (sizes : Sizes) (a found number : ℕ) (old new : PassRecord) → number < 2 ^ 64 → new ≡ with_change sizes a found ((found + number) % 2 ^ 64) old → AddsMore (cell_at sizes a) number old.rider.view.touches new.rider.view.touches
unfolding with_change
one_more law sizes a found number old new less is = record {
  more = number;
  sum_is = omega (arith, less);
  adds_up = λ total up. subst (λ (p : PassRecord). AddsUp (cell_at sizes a) (total + number) p.rider.view.touches) (sym is) (law (cell_at sizes a) total number found old.rider.view up);
}

-- what each of two riders added
each_of_two : (cell a b : ℕ) (one two : RiderView) → AddsUp cell a one.touches → AddsUp cell b two.touches → EachRider (λ i r. (total : ℕ) → slice_get (a ∷ b ∷ []) i ≡ Some total → AddsUp cell total r.touches) (one ∷ two ∷ [])
each_of_two cell a b one two p q zero r at total is =
    let same : one ≡ r = cc at in
    let sum : a ≡ total = cc is in
    subst (λ n. AddsUp cell n r.touches) sum (subst (λ (v : RiderView). AddsUp cell a v.touches) same p)
each_of_two cell a b one two p q (suc zero) r at total is =
    let same : two ≡ r = cc at in
    let sum : b ≡ total = cc is in
    subst (λ n. AddsUp cell n r.touches) sum (subst (λ (v : RiderView). AddsUp cell b v.touches) same q)
each_of_two cell a b one two p q (suc (suc i)) r at total is = absurd cc

-- two numbers' sum, modulo 2^64, is that of their remainders
sum_of_two : (word s t a b : ℕ) → word ≡ sum (a ∷ b ∷ []) % 2 ^ 64 → s ≡ a % 2 ^ 64 → t ≡ b % 2 ^ 64 → word ≡ (s + t) % 2 ^ 64
sum_of_two word s t a b w p q =
    let both : sum (a ∷ b ∷ []) ≡ a + b = omega (arith, sum_by-cons (λ (y : ℕ). y) a (b ∷ []), sum_by-cons (λ (y : ℕ). y) b []) in
    let is : word ≡ (a + b) % 2 ^ 64 = w ∙ ap (λ n. n % 2 ^ 64) both in
    omega (arith, is, p, q)

-- what a rider's touches add up to that added so much to nothing
added_in_all : (cell s : ℕ) (first touches : List Touch) → AddsUp cell 0 first → AddsMore cell s first touches → Added cell s touches
added_in_all cell s first touches none a = record { total = 0 + a.more; sum_is = omega (arith, a.sum_is); adds_up = a.adds_up 0 none }

-- what a cell holds where a domain was closed, to which both of its riders added
pub ends_at_sum : {F P : Type 0} → NoAddIsLost → (sizes : Sizes) (riders : List RiderState) (one two : RiderState) (cell : ℕ) (sums : Sums F P) (first second : List Touch) → IsEnding sizes riders sums.ending → riders ≡ one ∷ two ∷ [] → cell < sums.ending.words.cells
    → AddsUp cell 0 first → AddsUp cell 0 second → AddsMore cell sums.first first one.view.touches → AddsMore cell sums.second second two.view.touches → sums.word ≡ slice_index sums.ending.words.words cell
    → AddedUp sizes cell sums
ends_at_sum law sizes riders one two cell sums first second ends are less first_none second_none a b held =
    let ending = sums.ending in
    let end : IsEnding sizes (one ∷ two ∷ []) ending = subst (λ l. IsEnding sizes l ending) are ends in
    let p = added_in_all cell sums.first first one.view.touches first_none a in
    let q = added_in_all cell sums.second second two.view.touches second_none b in
    let word = law ending.words.cells ending.words.words _ (one.view ∷ two.view ∷ []) cell (p.total ∷ q.total ∷ []) end.ruled.rule less refl (each_of_two cell p.total q.total one.view two.view p.adds_up q.adds_up) in
    record {
      one = one;
      two = two;
      ends = end;
      first_is = p;
      second_is = q;
      word_is = held;
      sum_is = held ∙ sum_of_two (slice_index ending.words.words cell) sums.first sums.second p.total q.total word p.sum_is q.sum_is;
    }
