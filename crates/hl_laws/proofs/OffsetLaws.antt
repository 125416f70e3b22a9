-- What the offsets that steps move become when one step is put behind the list, and where records are placed.
use Rattle.std.proofs.Common.{◌≡◌, ℕ, ◌+◌, ◌-◌, ◌*◌, ◌/◌, ◌%◌, ◌<◌, ◌≤◌, Bool, true, false, cond, leb, max, List, [], ◌∷◌, ◌++◌, refl, sym, ap, ◌∙◌, arith}
use Rattle.std.specs.Prelude.{None}
use Rattle.std.proofs.Math.Nat.{add-mul, mul-mod_left}
use Rattle.std.proofs.lemmas.Bool.{leb-true}
use Rattle.std.proofs.lemmas.List.Sums.{fold-append}
use Rattle.std.proofs.lemmas.Nat.{div-add-mod', div-mul-add, mod_below}
use Rattle.hl_model.specs.declared.step.Step.{Step}
use Rattle.hl_model.specs.declared.step.Step.TheVariants.{Raise, Shift, Allocate}
use Rattle.hl_model.specs.Lists.{greatest}
use Rattle.hl_model.specs.Sizes.{Sizes}
use Rattle.hl_model.specs.Offsets.{raised_to, shifted_to, read_only, head, place_of, tail_past, tail}
use Rattle.hl_model.specs.Replies.{fault_of}
use Rattle.hl_model.proofs.ListLaws.{greatest-push}
use Rattle.hl_laws.proofs.NoFaultLaws.{raise-none, shift-none}

-- the read-only offset
pub read_only-push : (A : List Step) (s : Step) → read_only (A ++ s ∷ []) ≡ max (read_only A) (raised_to s)
unfolding read_only
read_only-push A s = greatest-push raised_to A s

-- the head
pub head-push : (A : List Step) (s : Step) → head (A ++ s ∷ []) ≡ max (head A) (shifted_to s)
unfolding head
head-push A s = greatest-push shifted_to A s

-- the tail
pub tail-push : (sizes : Sizes) (A : List Step) (s : Step) → tail sizes (A ++ s ∷ []) ≡ tail_past sizes.page_size (tail sizes A) s
unfolding tail
tail-push sizes A s = fold-append (tail_past sizes.page_size) 0 A (s ∷ [])

pub read_only-nil : read_only [] ≡ 0
unfolding read_only greatest
read_only-nil = refl

pub head-nil : head [] ≡ 0
unfolding head greatest
head-nil = refl

pub tail-nil : (sizes : Sizes) → tail sizes [] ≡ 0
unfolding tail
tail-nil sizes = refl

-- a step that is no raise leaves the read-only offset
pub read_only-stay : (A : List Step) (s : Step) → raised_to s ≡ 0 → read_only (A ++ s ∷ []) ≡ read_only A
read_only-stay A s h = omega (arith, read_only-push A s, h)

-- a step that is no shift leaves the head
pub head-stay : (A : List Step) (s : Step) → shifted_to s ≡ 0 → head (A ++ s ∷ []) ≡ head A
head-stay A s h = omega (arith, head-push A s, h)

-- an accepted raise
pub read_only-raise : (sizes : Sizes) (A : List Step) (x : ℕ) → fault_of sizes A (Raise x) ≡ None → read_only (A ++ Raise x ∷ []) ≡ x
read_only-raise sizes A x h = omega (arith, read_only-push A (Raise x), (raise-none sizes A x h).0)

-- an accepted shift
pub head-shift : (sizes : Sizes) (A : List Step) (x : ℕ) → fault_of sizes A (Shift x) ≡ None → head (A ++ Shift x ∷ []) ≡ x
head-shift sizes A x h = omega (arith, head-push A (Shift x), (shift-none sizes A x h).0)

-- the read-only offset never falls
pub read_only-grows : (A : List Step) (s : Step) → read_only A ≤ read_only (A ++ s ∷ [])
read_only-grows A s = omega (arith, read_only-push A s)

-- nor the head
pub head-grows : (A : List Step) (s : Step) → head A ≤ head (A ++ s ∷ [])
head-grows A s = omega (arith, head-push A s)

-- the start of the next page is above
pub next_page-above : (page_size tail : ℕ) → 0 < page_size → tail < (tail / page_size + 1) * page_size
next_page-above page_size tail h = omega (arith, add-mul (tail / page_size) 1 page_size, div-add-mod' tail page_size, mod_below tail page_size h)

-- a record is placed at the tail or behind it
pub place_of-le : (page_size tail n : ℕ) → 0 < page_size → tail ≤ place_of page_size tail n
place_of-le page_size tail n h = by_test (leb (tail % page_size + n) page_size)
  where
    by_test : (b : Bool) → tail ≤ cond b tail ((tail / page_size + 1) * page_size)
    by_test true = omega arith
    by_test false = omega (arith, next_page-above page_size tail h)

-- its page has room for it
pub place_of-fits : (page_size tail n : ℕ) → 0 < page_size → n ≤ page_size → place_of page_size tail n % page_size + n ≤ page_size
place_of-fits page_size tail n h fits = by_test (leb (tail % page_size + n) page_size) refl
  where
    by_test : (b : Bool) → leb (tail % page_size + n) page_size ≡ b → cond b tail ((tail / page_size + 1) * page_size) % page_size + n ≤ page_size
    by_test true e = leb-true (tail % page_size + n) page_size e
    by_test false e = omega (arith, mul-mod_left (tail / page_size + 1) page_size, fits)

-- where a page has room for some words from an address on, the last of them is on that page
pub one_page : (page_size a n : ℕ) → 0 < n → a % page_size + n ≤ page_size → a / page_size ≡ (a + n - 1) / page_size
one_page page_size a n some fits =
    let last : a + n - 1 ≡ a / page_size * page_size + (a % page_size + n - 1) = omega (arith, div-add-mod' a page_size) in
    sym (ap (λ x. x / page_size) last ∙ div-mul-add (a / page_size) page_size (a % page_size + n - 1) (omega arith))

-- so is the last word of a record
pub place_of-one_page : (page_size tail n : ℕ) → 0 < page_size → 0 < n → n ≤ page_size → place_of page_size tail n / page_size ≡ (place_of page_size tail n + n - 1) / page_size
place_of-one_page page_size tail n h some fits = one_page page_size (place_of page_size tail n) n some (place_of-fits page_size tail n h fits)

-- no step lowers the tail
tail_past-le : (page_size tail : ℕ) (s : Step) → 0 < page_size → tail ≤ tail_past page_size tail s
tail_past-le page_size tail (Allocate t n) h = omega (arith, place_of-le page_size tail n h)
tail_past-le page_size tail _ h = omega arith

-- the tail never falls
pub tail-grows : (sizes : Sizes) (A : List Step) (s : Step) → 0 < sizes.page_size → tail sizes A ≤ tail sizes (A ++ s ∷ [])
tail-grows sizes A s h = omega (arith, tail-push sizes A s, tail_past-le sizes.page_size (tail sizes A) s h)
