-- The newest record of one trace ends at the sum of all lengths and of what was skipped.
use Rattle.std.proofs.Common.{◌≡◌, ℕ, zero, suc, ◌+◌, ◌-◌, ◌*◌, ◌/◌, ◌%◌, ◌<◌, ◌≤◌, Bool, List, [], ◌∷◌, refl, ap, ◌∙◌, arith}
use Rattle.std.specs.Prelude.{if◌then◌else◌}
use Rattle.std.specs.List.{AllByRecursion as Every}
use Rattle.std.proofs.lemmas.List.Sums.{sum_by-cons}
use Rattle.std.proofs.lemmas.Bool.{le-leb}
use Rattle.std.proofs.Math.Nat.{div-add-mod, mod-lt, le_of_mul-le-mul_left, lt_of_mul-lt-mul_left, mul-le-mul_left}
use Rattle.hl_traces.specs.declared.act.Act.{Act}
use Rattle.hl_traces.specs.declared.act.Act.TheVariants.{Placed, Stored, Loaded, Changed, Met}
use Rattle.hl_traces.specs.OneTrace.{ActBy, ends_at, placed_end, AreInRow, EndsBelow, Follows, LiesBehind}
use Rattle.hl_traces.specs.Tails.{words_of, words_skipped, skipped_by, HasLength, TailIsTheSum, NoneAreSkipped}
use Rattle.hl_traces.proofs.JoinLaws.{all_higher}

-- where all records end below, the newest does
end_low : (a : ℕ) (all : List ActBy) → Every (λ (t : ActBy). EndsBelow a t.act) all → placed_end all ≤ a
end_low a [] low = omega arith
end_low a (t ∷ before) low = by t.act low.0 (end_low a before low.1)
  where
    by : (x : Act) → EndsBelow a x → placed_end before ≤ a → ends_at x (placed_end before) ≤ a
    by (Placed b n) own rest = own
    by _ own rest = rest

pub tail_is_the_sum : TailIsTheSum
tail_is_the_sum [] one = (tt, refl)
tail_is_the_sum (t ∷ before) one =
    let rest = tail_is_the_sum before one.1 in
    let own = by t.act one.0 rest.0 in
    ((own.0, own.1), omega (arith, own.2, rest.1, sum_by-cons (λ (x : ActBy). words_of x.act) t before))
  where
    by : (x : Act) → Follows before x → Every (λ (y : ActBy). EndsBelow (placed_end before) y.act) before
        → EndsBelow (ends_at x (placed_end before)) x × Every (λ (y : ActBy). EndsBelow (ends_at x (placed_end before)) y.act) before × (ends_at x (placed_end before) ≡ words_of x + (placed_end before + skipped_by (placed_end before) x))
    by (Placed a n) follows low = (omega arith, all_higher a (a + n) (omega arith) before follows, let le = end_low a before follows in omega (arith, le))
    by (Stored a v) follows low = (tt, low, omega arith)
    by (Loaded a v) follows low = (tt, low, omega arith)
    by (Changed a f v) follows low = (tt, low, omega arith)
    by (Met n) follows low = (tt, low, omega arith)

-- a page has room for one record more, where its words and those so far are whole records
has_room : (page n q m end : ℕ) → 0 < page → page ≡ n * q → end ≡ n * m → end % page + n ≤ page
has_room page n q m end some is at =
    let k = end / page in
    let parts : page * k + end % page ≡ end = div-add-mod end page in
    let below : n * (q * k) ≤ n * m = let same : page * k ≡ n * (q * k) = ap (λ (x : ℕ). x * k) is ∙ omega arith in omega (arith, parts, same, at) in
    let rest : end % page + n * (q * k) ≡ n * m = let same : page * k ≡ n * (q * k) = ap (λ (x : ℕ). x * k) is ∙ omega arith in omega (arith, parts, same, at) in
    by n is (λ positive. le_of_mul-le-mul_left below positive) rest
  where
    by : (l : ℕ) → page ≡ l * q → (0 < l → q * (end / page) ≤ m) → end % page + l * (q * (end / page)) ≡ l * m → end % page + l ≤ page
    by zero is low rest = absurd (omega (arith, some, is))
    by (suc l) is low rest =
        let more = m - q * (end / page) in
        let m_is : m ≡ q * (end / page) + more = let le = low (omega arith) in omega (arith, le) in
        let left : end % page ≡ suc l * more = let split : suc l * m ≡ suc l * (q * (end / page)) + suc l * more = ap (λ (x : ℕ). suc l * x) m_is ∙ omega arith in omega (arith, rest, split) in
        let less : more < q = lt_of_mul-lt-mul_left (suc l) (let short : end % page < page = mod-lt end some in omega (arith, short, left, is)) in
        let fits : suc l * (more + 1) ≤ suc l * q = mul-le-mul_left (suc l) (omega (arith, less)) in
        omega (arith, fits, left, is)

pub none_are_skipped : NoneAreSkipped
none_are_skipped all page n some whole row long = (by all row long).0
  where
    q : ℕ
    q = page / n

    is : page ≡ n * (page / n)
    is = omega (arith, whole, div-add-mod page n)

    by : (all : List ActBy) → AreInRow page all → Every (λ (t : ActBy). HasLength n t.act) all → (words_skipped all ≡ 0) × ((m : ℕ) × (placed_end all ≡ n * m))
    by [] row long = (refl, (0, omega arith))
    by (t ∷ before) row long =
        let rest = by before row.1 long.1 in
        one t.act row.0 long.0 rest.0 rest.1
      where
        one : (x : Act) → LiesBehind page (placed_end before) x → HasLength n x → words_skipped before ≡ 0 → ((m : ℕ) × (placed_end before ≡ n * m))
            → (skipped_by (placed_end before) x + words_skipped before ≡ 0) × ((m : ℕ) × (ends_at x (placed_end before) ≡ n * m))
        one (Placed a k) at length none end =
            let room : placed_end before % page + k ≤ page = let r = has_room page n (page / n) end.0 (placed_end before) some is end.1 in omega (arith, r, length) in
            let here : a ≡ placed_end before = at ∙ ap (λ (b : Bool). if b then placed_end before else ((placed_end before / page + 1) * page)) (le-leb (placed_end before % page + k) page room) in
            (omega (arith, here, none), (end.0 + 1, let next : n * (end.0 + 1) ≡ n * end.0 + n = omega arith in omega (arith, here, length, end.1, next)))
        one (Stored a v) at length none end = (omega (arith, none), end)
        one (Loaded a v) at length none end = (omega (arith, none), end)
        one (Changed a f v) at length none end = (omega (arith, none), end)
        one (Met k) at length none end = (omega (arith, none), end)
