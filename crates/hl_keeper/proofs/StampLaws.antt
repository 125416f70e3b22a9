-- What steps make of the count of acquires and of the stamps.
use Rattle.std.proofs.Common.{◌≡◌, ℕ, zero, suc, ◌+◌, ◌≤◌, Bool, true, false, cond, ◌||◌, List, [], ◌∷◌, ◌++◌, length, take, set, map, replicate, refl, sym, ap, ◌∙◌, arith, take_all, eq-eqb, ne_eqb}
use Rattle.std.specs.List.{list_any, range_with_len}
use Rattle.std.proofs.lemmas.Bool.{cond-true, cond-false}
use Rattle.std.proofs.lemmas.List.{length_push, take-append-le}
use Rattle.std.proofs.lemmas.List.Sums.{count_by-le-length}
use Rattle.hl_model.specs.declared.step.Step.{Step}
use Rattle.hl_model.specs.declared.step.Step.TheVariants.{Acquire}
use Rattle.hl_model.specs.Lists.{until_last}
use Rattle.hl_model.proofs.ListLaws.{until_last-push, until_last-le, count_by-push, list_any-push}
use Rattle.hl_laws.proofs.RowLaws.{rows_same, rows_set}
use Rattle.hl_keeper.specs.Stamps.{is_acquire, acquires, acquires_in, acquires_until, slot_stamp, slot_stamps}

-- a step that is no acquire is none of slot t
no_acquire : (t : ℕ) (s : Step) → is_acquire s ≡ false → acquires t s ≡ false
no_acquire t (Acquire u) h = cc
no_acquire t _ h = refl

or_none : (b : Bool) → (b || false) ≡ b
or_none true = refl
or_none false = refl

or_one : (b : Bool) → (b || true) ≡ true
or_one true = refl
or_one false = refl

-- no more acquires than steps
pub acquires_in-le : (A : List Step) → acquires_in A ≤ length A
unfolding acquires_in
acquires_in-le A = count_by-le-length is_acquire A

pub acquires_in-nil : acquires_in [] ≡ 0
unfolding acquires_in
acquires_in-nil = refl

-- one acquire more, and none
pub acquires_in-acquire : (A : List Step) (t : ℕ) → acquires_in (A ++ Acquire t ∷ []) ≡ acquires_in A + 1
unfolding acquires_in
acquires_in-acquire A t = count_by-push is_acquire A (Acquire t)

pub acquires_in-stay : (A : List Step) (s : Step) → is_acquire s ≡ false → acquires_in (A ++ s ∷ []) ≡ acquires_in A
unfolding acquires_in
acquires_in-stay A s h = count_by-push is_acquire A s ∙ ap (λ b. acquires_in A + cond b 1 0) h ∙ omega arith

-- an acquire stamps its slot
slot_stamp-acquire : (stamp t : ℕ) (A : List Step) → slot_stamp stamp t (A ++ Acquire t ∷ []) ≡ stamp + acquires_in (A ++ Acquire t ∷ [])
unfolding slot_stamp acquires_until
slot_stamp-acquire stamp t A =
    let s : Step = Acquire t in
    let here : acquires t s ≡ true = eq-eqb t t refl in
    let any : list_any (acquires t) (A ++ s ∷ []) ≡ true = list_any-push (acquires t) A s ∙ ap (λ b. list_any (acquires t) A || b) here ∙ or_one (list_any (acquires t) A) in
    let place : until_last (acquires t) (A ++ s ∷ []) ≡ length A + 1 = until_last-push (acquires t) A s ∙ cond-true (acquires t s) (length A + 1) (until_last (acquires t) A) here in
    let all : take (length A + 1) (A ++ s ∷ []) ≡ A ++ s ∷ [] = take_all (length A + 1) (A ++ s ∷ []) (omega (arith, length_push A s)) in
    rw (any, place, all) refl

-- and no other
slot_stamp-stay : (stamp t : ℕ) (A : List Step) (s : Step) → acquires t s ≡ false → slot_stamp stamp t (A ++ s ∷ []) ≡ slot_stamp stamp t A
unfolding slot_stamp acquires_until
slot_stamp-stay stamp t A s none =
    let any : list_any (acquires t) (A ++ s ∷ []) ≡ list_any (acquires t) A = list_any-push (acquires t) A s ∙ ap (λ b. list_any (acquires t) A || b) none ∙ or_none (list_any (acquires t) A) in
    let place : until_last (acquires t) (A ++ s ∷ []) ≡ until_last (acquires t) A = until_last-push (acquires t) A s ∙ cond-false (acquires t s) (length A + 1) (until_last (acquires t) A) none in
    let front : take (until_last (acquires t) A) (A ++ s ∷ []) ≡ take (until_last (acquires t) A) A = take-append-le (until_last (acquires t) A) A (s ∷ []) (until_last-le (acquires t) A) in
    rw (any, place, front) refl

pub slot_stamps-acquire : (n stamp : ℕ) (A : List Step) (t : ℕ) → slot_stamps n stamp (A ++ Acquire t ∷ []) ≡ set (slot_stamps n stamp A) t (stamp + acquires_in (A ++ Acquire t ∷ []))
unfolding slot_stamps
slot_stamps-acquire n stamp A t =
    rows_set (λ u. slot_stamp stamp u (A ++ Acquire t ∷ [])) (λ u. slot_stamp stamp u A) n t (stamp + acquires_in (A ++ Acquire t ∷ [])) (slot_stamp-acquire stamp t A)
    (λ u ne. slot_stamp-stay stamp u A (Acquire t) (ne_eqb t u (λ e. ne (sym e))))

pub slot_stamps-stay : (n stamp : ℕ) (A : List Step) (s : Step) → is_acquire s ≡ false → slot_stamps n stamp (A ++ s ∷ []) ≡ slot_stamps n stamp A
unfolding slot_stamps
slot_stamps-stay n stamp A s h = rows_same (λ u. slot_stamp stamp u (A ++ s ∷ [])) (λ u. slot_stamp stamp u A) n (λ u. slot_stamp-stay stamp u A s (no_acquire u s h))

-- no slot has one before the first step
pub slot_stamps-nil : (n stamp : ℕ) → slot_stamps n stamp [] ≡ replicate n 0
unfolding slot_stamps slot_stamp
slot_stamps-nil n stamp = zeros 0 n
  where
    zeros : (a m : ℕ) → map {B = ℕ} (λ (t : ℕ). 0) (range_with_len a m) ≡ replicate m 0
    zeros a zero = refl
    zeros a (suc m) = ap (λ l. 0 ∷ l) (zeros (a + 1) m)
