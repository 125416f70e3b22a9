-- The offsets of a lag, and that its steps are lawful at them.
use Rattle.std.proofs.Common.{◌≡◌, ℕ, ◌+◌, ◌-◌, ◌*◌, ◌/◌, ◌%◌, ◌<◌, ◌≤◌, arith, Bool, true, false, nat_lt, min, refl, ap, ◌∙◌, subst, None, List, [], ◌++◌, ◌⊎◌, inl, inr}
use Rattle.std.proofs.Math.Nat.{mul-mod_right, mul-le-mul_left}
use Rattle.std.proofs.lemmas.Bool.{cases_lt, ltb-true, lt-leb, le-ltb}
use Rattle.std.proofs.lemmas.List.Elements.{All-nil, All-cons, All-append}
use Rattle.std.proofs.lemmas.Nat.{div-mul-add, div-add-mod', mod_below}
use Rattle.std.specs.List.{All}
use Rattle.hl_model.specs.declared.step.Step.{Step}
use Rattle.hl_model.specs.declared.step.Step.TheVariants.{Raise, Settle, Shift, Close}
use Rattle.hl_model.specs.declared.view.Six.{Six}
use Rattle.hl_model.specs.Replies.{raise_fault}
use Rattle.hl_model.proofs.ListLaws.{max-has}
use Rattle.hl_laws.proofs.NoFaultLaws.{shift_lawful}
use Rattle.hl_model.specs.Snapshots.{AreInOrder}
use Rattle.hl_lag.specs.Lag.{pages_up_to, read_only_at, head_at, step_if, lag_of, fault_at}

-- so many pages, and one more where words are left, is a quotient that is rounded up
rounded_up : (page_size q r : ℕ) → r < page_size → q + min 1 r ≡ (q * page_size + r + page_size - 1) / page_size
rounded_up page_size q r h = by_rest (cases_lt 0 r)
  where
    by_rest : ((0 < r) ⊎ (r ≤ 0)) → q + min 1 r ≡ (q * page_size + r + page_size - 1) / page_size
    by_rest (inl some) =
        let at : q * page_size + r + page_size - 1 ≡ (q + 1) * page_size + (r - 1) = omega (arith, some) in
        let is : ((q + 1) * page_size + (r - 1)) / page_size ≡ q + 1 = div-mul-add (q + 1) page_size (r - 1) (omega (arith, h)) in
        omega (arith, some, ap (λ a. a / page_size) at ∙ is)
    by_rest (inr none) =
        let at : q * page_size + r + page_size - 1 ≡ q * page_size + (page_size - 1) = omega (arith, none, h) in
        let is : (q * page_size + (page_size - 1)) / page_size ≡ q = div-mul-add q page_size (page_size - 1) (omega (arith, h)) in
        omega (arith, none, ap (λ a. a / page_size) at ∙ is)

-- the pages up to the tail, counted as the whole ones and one more where words are left
pub pages_up_to-is : (page_size tail : ℕ) → 0 < page_size → tail / page_size + min 1 (tail % page_size) ≡ pages_up_to page_size tail
pages_up_to-is page_size tail h =
    rounded_up page_size (tail / page_size) (tail % page_size) (mod_below tail page_size h)
    ∙ ap (λ a. (a + page_size - 1) / page_size) (div-add-mod' tail page_size)

-- a raise is lawful above the read-only offset and up to the tail
raise_lawful : (read_only tail x : ℕ) → read_only < x → x ≤ tail → raise_fault read_only tail x ≡ None
raise_lawful read_only tail x above most = rw (lt-leb x read_only above, le-ltb tail x most) refl

-- some pages and m more, told as words
pages_and_more : (page_size k m : ℕ) → 1 ≤ m → page_size * k + page_size ≤ (k + m) * page_size
pages_and_more page_size k m some =
    let parts : (k + m) * page_size ≡ page_size * k + page_size * m = omega arith in
    let one : page_size * 1 ≤ page_size * m = mul-le-mul_left page_size some in
    omega (arith, parts, one)

-- where pages end less than a page behind the tail, all but some of them end at most at the tail
behind_tail : (page_size n m tail : ℕ) → 1 ≤ m → n * page_size < tail + page_size → page_size * (n - m) ≤ tail
behind_tail page_size n m tail some most = by_order (cases_lt m n)
  where
    by_order : ((m < n) ⊎ (n ≤ m)) → page_size * (n - m) ≤ tail
    by_order (inl lt) =
        let is : n - m + m ≡ n = omega (arith, lt) in
        let more : page_size * (n - m) + page_size ≤ n * page_size = subst (λ a. page_size * (n - m) + page_size ≤ a * page_size) is (pages_and_more page_size (n - m) m some) in
        omega (arith, more, most)
    by_order (inr le) =
        let none : n - m ≡ 0 = omega (arith, le) in
        rw none (omega arith)

-- the read-only offset is raised to at most the tail
pub read_only_at-most : (page_size : ℕ) (six : Six) (mutable : ℕ) → 0 < page_size → 1 ≤ mutable → six.read_only ≤ six.tail → read_only_at page_size six mutable ≤ six.tail
read_only_at-most page_size six mutable some least most =
    let whole : pages_up_to page_size six.tail * page_size + (six.tail + page_size - 1) % page_size ≡ six.tail + page_size - 1 = div-add-mod' (six.tail + page_size - 1) page_size in
    let behind : page_size * (pages_up_to page_size six.tail - mutable) ≤ six.tail = behind_tail page_size (pages_up_to page_size six.tail) mutable six.tail least (omega (arith, whole, some)) in
    omega (arith, behind, most)

-- the head is shifted to where a page begins
pub head_at-whole : (page_size : ℕ) (six : Six) (resident : ℕ) → AreInOrder page_size six → head_at page_size six resident % page_size ≡ 0
head_at-whole page_size six resident order =
    max-has (λ a. a % page_size ≡ 0) six.head (min six.flushed start) order.head_whole lower
  where
    start : ℕ
    start = page_size * (pages_up_to page_size six.tail - resident)

    by_order : ((six.flushed < start) ⊎ (start ≤ six.flushed)) → min six.flushed start % page_size ≡ 0
    by_order (inl lt) =
        let is : min six.flushed start ≡ six.flushed = omega (arith, lt) in
        ap (λ a. a % page_size) is ∙ order.flushed_whole
    by_order (inr le) =
        let is : min six.flushed start ≡ start = omega (arith, le) in
        ap (λ a. a % page_size) is ∙ mul-mod_right page_size (pages_up_to page_size six.tail - resident)

    lower : min six.flushed start % page_size ≡ 0
    lower = by_order (cases_lt six.flushed start)

-- the head is shifted to at most the flushed offset
pub head_at-most : (page_size : ℕ) (six : Six) (resident : ℕ) → six.head ≤ six.flushed → head_at page_size six resident ≤ six.flushed
head_at-most page_size six resident most = omega (arith, most)

-- what holds of a step, where it is wanted, holds of each that is there
each_wanted : (P : Step → Type 0) (b : Bool) (step : Step) → (b ≡ true → P step) → All P (step_if b step)
each_wanted P true step h = All-cons P step [] (h refl) (All-nil P)
each_wanted P false step h = All-nil P

-- no raise or shift of a lag meets a fault
pub lag-lawful : (page_size : ℕ) (six : Six) (mutable resident : ℕ) → 0 < page_size → 1 ≤ mutable → AreInOrder page_size six → All (λ step. fault_at page_size six step ≡ None) (lag_of page_size six mutable resident)
lag-lawful page_size six mutable resident some least order =
    All-append lawful (raise ++ settle ++ shift) close
    (All-append lawful (raise ++ settle) shift
    (All-append lawful raise settle
    (each_wanted lawful (nat_lt six.read_only r) (Raise r) raised)
    (each_wanted lawful (nat_lt six.safe_read_only r) Settle (λ is. refl)))
    (each_wanted lawful (nat_lt six.head h) (Shift h) shifted))
    (each_wanted lawful (nat_lt six.closed h) Close (λ is. refl))
  where
    lawful : Step → Type 0
    lawful step = fault_at page_size six step ≡ None

    r : ℕ
    r = read_only_at page_size six mutable

    h : ℕ
    h = head_at page_size six resident

    raise : List Step
    raise = step_if (nat_lt six.read_only r) (Raise r)

    settle : List Step
    settle = step_if (nat_lt six.safe_read_only r) Settle

    shift : List Step
    shift = step_if (nat_lt six.head h) (Shift h)

    close : List Step
    close = step_if (nat_lt six.closed h) Close

    raised : nat_lt six.read_only r ≡ true → lawful (Raise r)
    raised is = raise_lawful six.read_only six.tail r (ltb-true six.read_only r is) (read_only_at-most page_size six mutable some least order.read_only_most)

    shifted : nat_lt six.head h ≡ true → lawful (Shift h)
    shifted is = shift_lawful page_size six.head six.flushed h (ltb-true six.head h is) (head_at-whole page_size six resident order) (head_at-most page_size six resident order.head_most)
