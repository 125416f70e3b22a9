-- The master's seat deals out riders one after another.
use Rattle.std.proofs.Common.{◌≡◌, ℕ, zero, suc, ◌+◌, ◌-◌, ◌<◌, List, [], ◌∷◌, ◌++◌, replicate, take, drop, refl, ap, sym, ◌∙◌, subst, arith, length, length-append}
use Rattle.std.specs.Prelude.{slice_index_or}
use Rattle.atomic_table.specs.Table.{Me}
use Rattle.hl_history.specs.declared.view.Entry.{Entry}
use Rattle.hl_history.specs.States.{GatheredState}
use Rattle.hl_words.specs.declared.view.SeatView.{SeatView}
use Rattle.hl_words.specs.Views.{no_offsets, fresh, fresh_from}
use Rattle.hl_words.specs.Seats.{seat_of, rider_seat, left_seat, right_seat}
use Rattle.hl_words.specs.States.{RiderState, first_rider, AreTied, new_rider, new_riders}

-- a row of equal elements without its first
shorter : {X : Type 0} (x : X) (m k : ℕ) → m ≡ k + 1 → drop 1 (replicate m x) ≡ replicate k x
shorter x zero k e = absurd (omega arith)
shorter x (suc m) k e = let same : m ≡ k = omega arith in ap (λ (j : ℕ). replicate j x) same

pub shorter_row : (name m k : ℕ) → m ≡ k + 1 → drop 1 (fresh_from name m) ≡ fresh_from (name + 1) k
shorter_row name zero k e = absurd (omega arith)
shorter_row name (suc m) k e =
    let same : m ≡ k = omega arith in
    let next : suc name ≡ name + 1 = omega arith in
    ap (λ (j : ℕ). fresh_from (suc name) j) same ∙ ap (λ (j : ℕ). fresh_from j k) next

pub first_one : (name m k : ℕ) → m ≡ k + 1 → take 1 (fresh_from name m) ≡ fresh name ∷ []
first_one name zero k e = absurd (omega arith)
first_one name (suc m) k e = refl

first_same : {X : Type 0} (x : X) (m : ℕ) → slice_index_or (replicate m x) 0 x ≡ x
first_same x zero = refl
first_same x (suc m) = refl

abbrev dealt_rider : SeatView → List Entry → RiderState
dealt_rider v calls = record { view = first_rider v; share = 0; calls = calls }

-- the records after one more
pub next_records : (n k : ℕ) → k < n → (old new : GatheredState) (d : List Entry) → old ≡ record { list = []; records = replicate (n - k) [] } → old ≡ record { list = new.list; records = d ∷ new.records }
    → (d ≡ []) × (new ≡ record { list = []; records = replicate (n - (k + 1)) [] })
next_records n k less old new d is e =
    let both = sym e ∙ is in
    let list : new.list ≡ [] = ap (λ (g : GatheredState). g.list) both in
    let rest : new.records ≡ replicate (n - (k + 1)) [] = ap (λ (g : GatheredState). drop 1 g.records) both ∙ shorter [] (n - k) (n - (k + 1)) (omega (arith, less)) in
    (ap (λ (g : GatheredState). slice_index_or g.records 0 []) both ∙ first_same [] (n - k), ap (λ l. record { list = l; records = new.records }) list ∙ ap (λ ds. record { list = []; records = ds }) rest)

pub new_long : (n : ℕ) → length (new_riders n) ≡ n
new_long zero = refl
new_long (suc n) = omega (arith, length-append (new_riders n) (new_rider n ∷ []), new_long n)

module _ (n k : ℕ) (less : k < n) (me : Me (Unit {0}) SeatView) (is : me ≡ (seat_of no_offsets (fresh_from k (n - k)), [])) where
  -- the master's seat after one more
  pub next_seat : (after : Me (Unit {0}) SeatView) → after ≡ (left_seat me.0, me.1) → after ≡ (seat_of no_offsets (fresh_from (k + 1) (n - (k + 1))), [])
  next_seat after e = e ∙ ap (λ (m : Me (Unit {0}) SeatView). (left_seat m.0, m.1)) is ∙ ap (λ l. (seat_of no_offsets l, [])) (shorter_row k (n - k) (n - (k + 1)) (omega arith))

  -- the seat that is dealt out
  pub given_seat : (given : Me (Unit {0}) SeatView) → given ≡ (right_seat me.0, []) → given ≡ (rider_seat (fresh k), [])
  given_seat given e = e ∙ ap (λ (m : Me (Unit {0}) SeatView). (right_seat m.0, [])) is ∙ ap (λ l. (seat_of no_offsets l, [])) (first_one k (n - k) (n - (k + 1)) (omega arith))

  -- it is a rider's
  pub is_rider : (given : Me (Unit {0}) SeatView) → given ≡ (right_seat me.0, []) → given ≡ (rider_seat (first_rider given.0), [])
  is_rider given e =
      let g = given_seat given e in
      g ∙ ap (λ (m : Me (Unit {0}) SeatView). (rider_seat (first_rider m.0), [])) (sym g)

  -- who made no call yet
  pub given_tied : (given : Me (Unit {0}) SeatView) → given ≡ (right_seat me.0, []) → (calls : List Entry) → calls ≡ [] → AreTied (first_rider given.0).touches calls
  given_tied given e calls empty = subst (λ (m : Me (Unit {0}) SeatView). AreTied (first_rider m.0).touches calls) (sym (given_seat given e)) (subst (λ (d : List Entry). AreTied [] d) (sym empty) tt)

  pub more_riders : (given : Me (Unit {0}) SeatView) → given ≡ (right_seat me.0, []) → (calls : List Entry) → calls ≡ [] → (riders after : List RiderState) → riders ≡ new_riders k
      → after ≡ riders ++ dealt_rider given.0 calls ∷ [] → after ≡ new_riders (k + 1)
  more_riders given e calls empty riders after old new =
      let g = given_seat given e in
      let next : suc k ≡ k + 1 = omega arith in
      new ∙ ap (λ l. l ++ dealt_rider given.0 calls ∷ []) old ∙ ap (λ d. new_riders k ++ dealt_rider given.0 d ∷ []) empty ∙ ap (λ (m : Me (Unit {0}) SeatView). new_riders k ++ dealt_rider m.0 [] ∷ []) g ∙ ap new_riders next
