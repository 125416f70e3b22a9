-- A record that crosses no page, and the lowest place that a record has.
use Rattle.std.proofs.Common.{◌≡◌, ℕ, ◌+◌, ◌-◌, ◌*◌, ◌/◌, ◌%◌, ◌<◌, ◌≤◌, refl, ap, sym, ◌∙◌, arith, inl, inr}
use Rattle.std.proofs.lemmas.Nat.{div-mul-add, div-add-mod', mod_below}
use Rattle.std.proofs.lemmas.Bool.{cases_lt, le-leb, lt-leb}
use Rattle.hl_model.specs.Offsets.{place_of}
use Rattle.hl_offsets.specs.Place.{IsOnOnePage}

-- an address is its page's first one, plus its place on the page
page_and_rest : (page_size a q r : ℕ) → a ≡ q * page_size + r → r < page_size → a / page_size ≡ q
page_and_rest page_size a q r is below = ap (λ b. b / page_size) is ∙ div-mul-add q page_size r below

-- a record that begins r words after a page's first and fits into the page
IsOnOnePage-within : (page_size n place q r : ℕ) → 0 < n → place ≡ q * page_size + r → r + n ≤ page_size → IsOnOnePage page_size n place
IsOnOnePage-within page_size n place q r some is fits =
    page_and_rest page_size place q r is (omega arith)
    ∙ sym (page_and_rest page_size (place + n - 1) q (r + n - 1) (omega arith) (omega arith))

-- a record for which the tail's page has room
IsOnOnePage-here : (page_size tail n : ℕ) → 0 < n → tail % page_size + n ≤ page_size → IsOnOnePage page_size n tail
IsOnOnePage-here page_size tail n some fits =
    IsOnOnePage-within page_size n tail (tail / page_size) (tail % page_size) some (sym (div-add-mod' tail page_size)) fits

-- a record at the start of a page
IsOnOnePage-start : (page_size n q : ℕ) → 0 < n → n ≤ page_size → IsOnOnePage page_size n (q * page_size)
IsOnOnePage-start page_size n q some fits = IsOnOnePage-within page_size n (q * page_size) q 0 some (omega arith) (omega arith)

-- where the tail's page has too little room, no later place on that page has
on_tail_page : (page_size tail n : ℕ) → 0 < n → page_size < tail % page_size + n → (a : ℕ) → tail ≤ a → a < (tail / page_size + 1) * page_size → IsOnOnePage page_size n a → ⊥
on_tail_page page_size tail n some full a above below one =
    let tail_is : tail / page_size * page_size + tail % page_size ≡ tail = div-add-mod' tail page_size in
    let first : a / page_size ≡ tail / page_size = page_and_rest page_size a (tail / page_size) (a - tail / page_size * page_size) (omega arith) (omega arith) in
    let last : (a + n - 1) / page_size ≡ tail / page_size = sym one ∙ first in
    let last_is : tail / page_size * page_size + (a + n - 1) % page_size ≡ a + n - 1 = rw (← last) (div-add-mod' (a + n - 1) page_size) in
    absurd (omega (arith, mod_below (a + n - 1) page_size (omega arith)))

-- where the tail's page has too little room, no place below the next page has
lowest_next : (page_size tail n : ℕ) → 0 < n → page_size < tail % page_size + n → (a : ℕ) → tail ≤ a → IsOnOnePage page_size n a → (tail / page_size + 1) * page_size ≤ a
lowest_next page_size tail n some full a above one =
    let not_below : a < (tail / page_size + 1) * page_size → ⊥ = λ below. on_tail_page page_size tail n some full a above below one in
    omega (arith, not_below)

-- each record lies on one page
pub IsOnOnePage-place : (page_size tail n : ℕ) → 0 < n → n ≤ page_size → IsOnOnePage page_size n (place_of page_size tail n)
IsOnOnePage-place page_size tail n some fits =
    elim (cases_lt page_size (tail % page_size + n)) [
      | inl full ↦ rw (lt-leb (tail % page_size + n) page_size full) (IsOnOnePage-start page_size n (tail / page_size + 1) some fits)
      | inr room ↦ rw (le-leb (tail % page_size + n) page_size room) (IsOnOnePage-here page_size tail n some room)
    ]

-- and no lower place has it on one
pub lowest-place : (page_size tail n : ℕ) → 0 < n → (a : ℕ) → tail ≤ a → IsOnOnePage page_size n a → place_of page_size tail n ≤ a
lowest-place page_size tail n some a above one =
    elim (cases_lt page_size (tail % page_size + n)) [
      | inl full ↦ rw (lt-leb (tail % page_size + n) page_size full) (lowest_next page_size tail n some full a above one)
      | inr room ↦ rw (le-leb (tail % page_size + n) page_size room) above
    ]

-- the place by what the tail's page has before the tail
pub place-here : (page_size tail n before : ℕ) → before ≡ tail % page_size → before + n ≤ page_size → tail ≡ place_of page_size tail n
place-here page_size tail n before is room =
    let fits : tail % page_size + n ≤ page_size = omega arith in
    rw (le-leb (tail % page_size + n) page_size fits) refl

pub place-next : (page_size tail n before : ℕ) → before ≡ tail % page_size → page_size < before + n → tail - before + page_size ≡ place_of page_size tail n
place-next page_size tail n before is full =
    let past : page_size < tail % page_size + n = omega arith in
    rw (lt-leb (tail % page_size + n) page_size past) (omega (arith, div-add-mod' tail page_size))
