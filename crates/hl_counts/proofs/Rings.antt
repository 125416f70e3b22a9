-- What a change of one slot makes of the counts, and what a count says of the slots.
use Rattle.std.proofs.Common.{◌≡◌, ℕ, zero, suc, ◌+◌, ◌-◌, ◌%◌, ◌<◌, ◌≤◌, cond, Bool, true, Option, Some, None, List, [], ◌∷◌, length, replicate, get_or, set, length-set, get_or-set_same, get_or-set_other, inl, inr, refl, sym, ap, ◌∙◌, arith}
use Rattle.std.specs.List.{count_by}
use Rattle.std.proofs.lemmas.Bool.{cases_lt, cases_eq, eq-eqb, ne_eqb}
use Rattle.std.proofs.lemmas.Bool.Decides.{nat_tests}
use Rattle.std.proofs.lemmas.List.{length-replicate}
use Rattle.std.proofs.lemmas.List.Folds.{sum_by-replicate}
use Rattle.std.proofs.lemmas.List.Sums.{sum_by-cons, sum_by-set}
use Rattle.std.proofs.lemmas.Nat.{mod_below}
use Rattle.hl_model.proofs.Remainders.{mod-apart}
use Rattle.hl_counts.specs.Tallies.{count_at, added, removed, is_counted, IsTally}

-- what a slot adds to a place's count
abbrev share : ℕ → ℕ → Option ℕ → ℕ
share n place slot = cond (is_counted n place slot) 1 0

-- one slot changes: the counts are right again if each place's count changes by what the slot added and adds
IsTally-changed : (epochs : List (Option ℕ)) (counts new : List ℕ) (t : ℕ) (slot : Option ℕ) → IsTally epochs counts → t < length epochs → length new ≡ length counts → ((place : ℕ) → place < length counts → get_or new place 0 + share (length counts) place (get_or epochs t None) ≡ get_or counts place 0 + share (length counts) place slot) → IsTally (set epochs t slot) new
IsTally-changed epochs counts new t slot is within same moved = record {
  some = omega (arith, is.some);
  each = λ place low.
      let below : place < length counts = omega arith in
      rw same (omega (arith, moved place below, is.each place below, sum_by-set (λ x. cond (is_counted (length counts) place x) 1 0) epochs t slot None within));
}

-- a count at one place, raised by one
get_or-added : (counts : List ℕ) (epoch place : ℕ) → 0 < length counts → get_or (added epoch counts) place 0 ≡ get_or counts place 0 + share (length counts) place (Some epoch)
get_or-added counts epoch place some =
    let at : ℕ = epoch % length counts in
    let within : at < length counts = mod_below epoch (length counts) some in
    elim (cases_eq place at) [
      | inl here ↦ grind (arith, nat_tests, get_or-set_same counts at (get_or counts at 0 + 1) 0 within)
      | inr other ↦ grind (arith, nat_tests, get_or-set_other counts at place (get_or counts at 0 + 1) 0 other)
    ]

-- the same, where the ring has n places
get_or-added_of : (counts : List ℕ) (n epoch place : ℕ) → length counts ≡ n → 0 < n → get_or (added epoch counts) place 0 ≡ get_or counts place 0 + share n place (Some epoch)
get_or-added_of counts n epoch place len some = rw (← len) (get_or-added counts epoch place (omega arith))

-- a count at one place, lowered by one
get_or-removed : (counts : List ℕ) (epoch place : ℕ) → 0 < length counts → 0 < count_at epoch counts → get_or (removed epoch counts) place 0 + share (length counts) place (Some epoch) ≡ get_or counts place 0
get_or-removed counts epoch place some counted =
    let at : ℕ = epoch % length counts in
    let within : at < length counts = mod_below epoch (length counts) some in
    elim (cases_eq place at) [
      | inl here ↦ grind (arith, nat_tests, get_or-set_same counts at (get_or counts at 0 - 1) 0 within)
      | inr other ↦ grind (arith, nat_tests, get_or-set_other counts at place (get_or counts at 0 - 1) 0 other)
    ]

-- a slot that was free is counted
pub IsTally-entered : (epochs : List (Option ℕ)) (counts : List ℕ) (t epoch : ℕ) → IsTally epochs counts → t < length epochs → get_or epochs t None ≡ None → IsTally (set epochs t (Some epoch)) (added epoch counts)
IsTally-entered epochs counts t epoch is within free =
    IsTally-changed epochs counts (added epoch counts) t (Some epoch) is within (length-set counts (epoch % length counts) (count_at epoch counts + 1))
    (λ place low. rw free (omega (arith, get_or-added counts epoch place is.some)))

-- a slot that was counted is free
pub IsTally-left : (epochs : List (Option ℕ)) (counts : List ℕ) (t epoch : ℕ) → IsTally epochs counts → t < length epochs → get_or epochs t None ≡ Some epoch → 0 < count_at epoch counts → IsTally (set epochs t None) (removed epoch counts)
IsTally-left epochs counts t epoch is within at counted =
    IsTally-changed epochs counts (removed epoch counts) t None is within (length-set counts (epoch % length counts) (count_at epoch counts - 1))
    (λ place low. rw at (omega (arith, get_or-removed counts epoch place is.some counted)))

-- a slot that was counted at one epoch is counted at another
pub IsTally-moved : (epochs : List (Option ℕ)) (counts : List ℕ) (t epoch next : ℕ) → IsTally epochs counts → t < length epochs → get_or epochs t None ≡ Some epoch → 0 < count_at epoch counts → IsTally (set epochs t (Some next)) (added next (removed epoch counts))
IsTally-moved epochs counts t epoch next is within at counted =
    let less : List ℕ = removed epoch counts in
    let same : length less ≡ length counts = length-set counts (epoch % length counts) (count_at epoch counts - 1) in
    let more : length (added next less) ≡ length less = length-set less (next % length less) (count_at next less + 1) in
    IsTally-changed epochs counts (added next less) t (Some next) is within (omega arith)
    (λ place low.
    let raised : get_or (added next less) place 0 ≡ get_or less place 0 + share (length counts) place (Some next) =
    get_or-added_of less (length counts) next place same is.some in
    rw at (omega (arith, get_or-removed counts epoch place is.some counted)))

-- a slot is among those that a test counts
count_by-some : (p : Option ℕ → Bool) (slots : List (Option ℕ)) (t epoch : ℕ) → get_or slots t None ≡ Some epoch → p (Some epoch) ≡ true → 0 < count_by p slots
count_by-some p [] t epoch e passes = absurd cc
count_by-some p (slot ∷ slots) zero epoch e passes =
    let here : p slot ≡ true = cc in
    omega (arith, sum_by-cons (λ x. cond (p x) 1 0) slot slots, ap {B = ℕ} (λ b. cond b 1 0) here)
count_by-some p (slot ∷ slots) (suc t) epoch e passes =
    omega (arith, sum_by-cons (λ x. cond (p x) 1 0) slot slots, count_by-some p slots t epoch e passes)

-- a slot's epoch has a count
pub count_at-some : (epochs : List (Option ℕ)) (counts : List ℕ) (t epoch : ℕ) → IsTally epochs counts → get_or epochs t None ≡ Some epoch → 0 < count_at epoch counts
count_at-some epochs counts t epoch is e =
    let place : ℕ = epoch % length counts in
    omega (arith, is.each place (mod_below epoch (length counts) is.some), count_by-some (is_counted (length counts) place) epochs t epoch e (eq-eqb place place refl))

-- a place that counts somebody is that of a slot's epoch
somebody : (n place : ℕ) (slots : List (Option ℕ)) → 0 < count_by (is_counted n place) slots → (t : ℕ) × (epoch : ℕ) × (get_or slots t None ≡ Some epoch) × (epoch % n ≡ place)
somebody n place [] counted = absurd (omega arith)
somebody n place (None ∷ slots) counted =
    let rest : 0 < count_by (is_counted n place) slots = omega (arith, sum_by-cons (λ x. cond (is_counted n place x) 1 0) None slots) in
    let found = somebody n place slots rest in
    (suc found.0, found.1, found.2, found.3)
somebody n place (Some epoch ∷ slots) counted = elim (cases_eq (epoch % n) place) [
  | inl here ↦ (0, epoch, refl, here)
  | inr other ↦
      let rest : 0 < count_by (is_counted n place) slots =
      omega (arith, sum_by-cons (λ x. cond (is_counted n place x) 1 0) (Some epoch) slots, ap {B = ℕ} (λ b. cond b 1 0) (ne_eqb (epoch % n) place other)) in
      let found = somebody n place slots rest in
      (suc found.0, found.1, found.2, found.3)
]

-- numbers from low on, less than the ring is long above it, have places of their own
same_place : (n low a b : ℕ) → low ≤ a → a < low + n → low ≤ b → b < low + n → a % n ≡ b % n → a ≡ b
same_place n low a b least_a below_a least_b below_b same = elim (cases_lt a b) [
  | inl less ↦ absurd (omega (arith, mod-apart a b n same less))
  | inr most ↦ elim (cases_lt b a) [ inl less ↦ absurd (omega (arith, mod-apart b a n (sym same) less)) | inr least ↦ omega arith ]
]

-- where the slots' epochs are within a ring's length from low on, an epoch that is counted there is that of a slot
pub slot_of_count : (epochs : List (Option ℕ)) (counts : List ℕ) (low epoch : ℕ) → IsTally epochs counts → ((t e : ℕ) → get_or epochs t None ≡ Some e → (low ≤ e) × (e < low + length counts)) → low ≤ epoch → epoch < low + length counts → 0 < count_at epoch counts → (t : ℕ) × (get_or epochs t None ≡ Some epoch)
slot_of_count epochs counts low epoch is near least below counted =
    let n : ℕ = length counts in
    let found = somebody n (epoch % n) epochs (omega (arith, is.each (epoch % n) (mod_below epoch n is.some))) in
    let ranges = near found.0 found.1 found.2 in
    let same : found.1 ≡ epoch = same_place n low found.1 epoch ranges.0 ranges.1 least below found.3 in
    (found.0, found.2 ∙ ap Some same)

-- places that count nothing
abbrev empty : ℕ → List ℕ
empty places = replicate places 0

-- each of them holds 0
get_or-empty : (places place : ℕ) → get_or (empty places) place 0 ≡ 0
get_or-empty zero place = refl
get_or-empty (suc places) zero = refl
get_or-empty (suc places) (suc place) = get_or-empty places place

-- nobody is protected, and nobody counted
pub IsTally-opened : (slots places : ℕ) → 0 < places → IsTally (replicate slots None) (empty places)
IsTally-opened slots places some = record {
  some = omega (arith, length-replicate {A = ℕ} places 0);
  each = λ place low. omega (arith, get_or-empty places place, sum_by-replicate (λ x. cond (is_counted (length (empty places)) place x) 1 0) slots None);
}

-- no change of a count changes how long the ring is
pub length-added : (epoch : ℕ) (counts : List ℕ) → length (added epoch counts) ≡ length counts
length-added epoch counts = length-set counts (epoch % length counts) (count_at epoch counts + 1)

pub length-removed : (epoch : ℕ) (counts : List ℕ) → length (removed epoch counts) ≡ length counts
length-removed epoch counts = length-set counts (epoch % length counts) (count_at epoch counts - 1)
