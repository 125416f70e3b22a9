-- The run of flushed pages, as far as it is looked for.
use Rattle.std.proofs.Common.{◌≡◌, ◌⊎◌, ℕ, ◌+◌, ◌*◌, ◌/◌, ◌<◌, ◌≤◌, ◌^◌, true, false, ltb, ◌&&◌, ◌||◌, max, List, [], ◌∷◌, inl, inr, sym, ap, ap₂, ◌∙◌, arith, get_or, zero-add}
use Rattle.std.specs.List.{list_any, prefix_len, range_with_len}
use Rattle.std.proofs.Math.Nat.{mul-le-mul_left}
use Rattle.std.proofs.lemmas.Bool.{cases_lt, both_ways, and_parts, ltb-true, lt-ltb, le-ltb}
use Rattle.std.proofs.lemmas.List.FromFn.{length-range_with_len, get_or-range_with_len}
use Rattle.std.proofs.lemmas.List.Sums.{prefix_len-le-length, prefix_len_stops}
use Rattle.hl_model.specs.declared.step.Step.{Step}
use Rattle.hl_model.specs.Lists.{greatest}
use Rattle.hl_model.specs.Bases.{Base}
use Rattle.hl_model.specs.AfterPages.{is_complete_after, flushing_after, flushed_run_after, flushed_after}
use Rattle.hl_model.proofs.SearchLaws.{prefix_len-first, le-div}
use Rattle.hl_laws.proofs.RunLaws.{run_passes}
use Rattle.hl_plain.specs.Works.{run_end, runs_at}

-- below one of two numbers, or below the greater
pub max_ltb : (p m n : ℕ) → (ltb p m || ltb p n) ≡ ltb p (max m n)
max_ltb p m n = elim (cases_lt p m) [
  | inl lt ↦ let first : ltb p m ≡ true = lt-ltb p m lt in let both : ltb p (max m n) ≡ true = lt-ltb p (max m n) (omega (arith, lt)) in cc
  | inr ge ↦ elim (cases_lt p n) [
    | inl lt ↦ let first : ltb p m ≡ false = le-ltb p m ge in let second : ltb p n ≡ true = lt-ltb p n lt in let both : ltb p (max m n) ≡ true = lt-ltb p (max m n) (omega (arith, lt)) in cc
    | inr le ↦ let first : ltb p m ≡ false = le-ltb p m ge in let second : ltb p n ≡ false = le-ltb p n le in let both : ltb p (max m n) ≡ false = le-ltb p (max m n) (omega (arith, ge, le)) in cc
  ]
]

-- some element gives more than p where the greatest does
pub any_greatest : {X : Type 0} (p : ℕ) (f : X → ℕ) (xs : List X) → list_any (λ x. ltb p (f x)) xs ≡ ltb p (greatest f xs)
unfolding greatest
any_greatest p f [] = sym (le-ltb p 0 (omega arith))
any_greatest p f (x ∷ xs) = ap (λ b. ltb p (f x) || b) (any_greatest p f xs) ∙ max_ltb p (f x) (greatest f xs)

-- the run ends at the first page that isn't
pub run-is : (b : Base) (L : List Step) (n : ℕ) → ((q : ℕ) → q < n → runs_at b L q ≡ true) → runs_at b L n ≡ false → flushed_run_after b L ≡ n
unfolding flushed_run_after
run-is b L n passes fails =
    sym (zero-add _) ∙ prefix_len-first (λ p. is_complete_after (flushing_after b) p L) 0 (run_end b L) n
    (λ q from lt. (and_parts (ltb q (run_end b L)) (is_complete_after (flushing_after b) q L) (passes q lt)).1) (omega arith) (omega (arith, within (cases_lt (run_end b L) n))) (λ lt. last (omega (arith, lt)))
  where
    within : ((run_end b L < n) ⊎ (n ≤ run_end b L)) → n ≤ run_end b L
    within (inr le) = le
    within (inl lt) = omega (arith, ltb-true (run_end b L) (run_end b L) (and_parts (ltb (run_end b L) (run_end b L)) (is_complete_after (flushing_after b) (run_end b L) L) (passes (run_end b L) lt)).0)

    last : n < run_end b L → is_complete_after (flushing_after b) n L ≡ false
    last lt = sym (ap (λ t. t && is_complete_after (flushing_after b) n L) (lt-ltb n (run_end b L) lt)) ∙ fails

-- it reaches as far as all pages are
pub run-least : (b : Base) (L : List Step) (n : ℕ) → ((q : ℕ) → q < n → runs_at b L q ≡ true) → n ≤ flushed_run_after b L
unfolding flushed_run_after
run-least b L n passes = by_order (cases_lt k n)
  where
    k : ℕ
    k = prefix_len (λ p. is_complete_after (flushing_after b) p L) (range_with_len 0 (run_end b L))

    by_order : ((k < n) ⊎ (n ≤ k)) → n ≤ k
    by_order (inr ge) = ge
    by_order (inl lt) =
        let here = and_parts (ltb k (run_end b L)) (is_complete_after (flushing_after b) k L) (passes k lt) in
        let below : k < run_end b L = ltb-true k (run_end b L) here.0 in
        let there : get_or (range_with_len 0 (run_end b L)) k 0 ≡ k = omega (arith, get_or-range_with_len 0 (run_end b L) k 0 below) in
        absurd (both_ways (is_complete_after (flushing_after b) k L)
        (ap (λ q. is_complete_after (flushing_after b) q L) (sym there) ∙ prefix_len_stops (λ p. is_complete_after (flushing_after b) p L) (range_with_len 0 (run_end b L)) 0 (omega (arith, length-range_with_len 0 (run_end b L)))) here.1)

-- where all pages that the space has are flushed, these are the run
pub run-all : (b : Base) (L : List Step) (n : ℕ) → 0 < b.sizes.page_size → n ≡ 2 ^ 48 / b.sizes.page_size → flushed_after b L ≤ 2 ^ 48 → ((q : ℕ) → q < n → runs_at b L q ≡ true) → n ≡ flushed_run_after b L
run-all b L n some is fits passes =
    omega (arith, run-least b L n passes, is, le-div b.sizes.page_size (flushed_run_after b L) (2 ^ 48) some fits)

-- below the first of two numbers, or below the second
pub below_first : (p m n : ℕ) → p < m → ltb p m ≡ ltb p (max m n)
below_first p m n lt = lt-ltb p m lt ∙ sym (lt-ltb p (max m n) (omega (arith, lt)))

pub below_second : (p m n : ℕ) → m ≤ p → ltb p n ≡ ltb p (max m n)
below_second p m n le = ap (λ b. b || ltb p n) (sym (le-ltb p m le)) ∙ max_ltb p m n

-- the pages of the run are flushed
pub run-passes : (b : Base) (L : List Step) (q : ℕ) → q < flushed_run_after b L → runs_at b L q ≡ true
unfolding flushed_run_after
run-passes b L q h =
    ap₂ (λ x y. x && y)
    (lt-ltb q (run_end b L) (omega (arith, h, prefix_len-le-length (λ p. is_complete_after (flushing_after b) p L) (range_with_len 0 (run_end b L)), length-range_with_len 0 (run_end b L))))
    (run_passes (λ p. is_complete_after (flushing_after b) p L) (run_end b L) q h)

-- where the flushed offset isn't below the base's, the run has the pages that are below that
pub run-begun : (b : Base) (L : List Step) → 0 < b.sizes.page_size → b.six.flushed ≤ flushed_after b L → b.six.flushed / b.sizes.page_size ≤ flushed_run_after b L
run-begun b L some least = elim (cases_lt (flushed_run_after b L) (b.six.flushed / b.sizes.page_size)) [
  | inl more ↦
      let past : b.sizes.page_size * (flushed_run_after b L + 1) ≤ b.sizes.page_size * (b.six.flushed / b.sizes.page_size) = mul-le-mul_left b.sizes.page_size (omega (arith, more)) in
      absurd (omega (arith, past, some, least))
  | inr most ↦ most
]
