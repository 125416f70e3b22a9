-- A seat of words with a brand may take the steps of their table; cells are loaded and zeroed one after another.
use Rattle.std.proofs.Common.{◌≡◌, ℕ, zero, suc, ◌+◌, ◌<◌, List, [], ◌∷◌, ◌++◌, length, take, set, ap, ◌∙◌, sym, subst, arith}
use Rattle.std.proofs.Math.Seq.{take-suc-set}
use Rattle.std.proofs.lemmas.List.{length-take}
use Rattle.atomic_table.specs.Seated.{TableId}
use Rattle.atomic_table.specs.Table.{Me}
use Rattle.hl_history.specs.declared.view.Entry.{Entry}
use Rattle.hl_words.specs.declared.view.RiderView.{RiderView}
use Rattle.hl_words.specs.declared.view.SeatView.{SeatView}
use Rattle.hl_words.specs.declared.view.Room.{Room}
use Rattle.hl_words.specs.Rows.{IsWide, StandsFor, CanStep}
use Rattle.hl_words.specs.Seats.{rider_seat}
use Rattle.hl_words.specs.States.{first_rider, IsTableOf, AreTied}
use Rattle.hl_words.specs.Views.{stored, loaded, zeroed, loaded_all}

pub is_wide : (room key : Room) (table : TableId) → IsTableOf room key table → IsWide key table
is_wide room key table t = subst (λ (k : Room). IsWide k table) (sym t.key_is) (t.words_are, t.few)

pub can_step : (room key : Room) (table seat : TableId) (me : Me (Unit {0}) SeatView) → IsTableOf room key table → seat ≡ table → StandsFor (first_rider me.0) me → CanStep key table seat me
can_step room key table seat me t there rider = record { wide = is_wide room key table t; there = there; rider = rider }

-- what a seat is whose rider did this
abbrev seat_with : RiderView → Me (Unit {0}) SeatView
seat_with view = (rider_seat view, [])

-- one more cell was zeroed
pub zeroed_none : (first : ℕ) (me : Me (Unit {0}) SeatView) → StandsFor (first_rider me.0) me → StandsFor (zeroed first 0 (first_rider me.0)) me
unfolding zeroed
zeroed_none first me stands = stands

pub zeroed_next : (first k : ℕ) (view : RiderView) (mid after : Me (Unit {0}) SeatView) → StandsFor (zeroed first k view) mid → StandsFor (stored (first + k) 0 (first_rider mid.0)) after → StandsFor (zeroed first (k + 1) view) after
unfolding zeroed
zeroed_next first k view mid after m a =
    let next : suc k ≡ k + 1 = omega arith in
    a ∙ ap (λ (s : Me (Unit {0}) SeatView). seat_with (stored (first + k) 0 (first_rider s.0))) m ∙ ap (λ n. seat_with (zeroed first n view)) next

-- one more cell was loaded
loaded_push : (cell : ℕ) (ws : List ℕ) (w : ℕ) (view : RiderView) → loaded_all cell (ws ++ w ∷ []) view ≡ loaded (cell + length ws) w (loaded_all cell ws view)
unfolding loaded_all
loaded_push cell [] w view = ap (λ n. loaded n w view) (omega arith)
loaded_push cell (x ∷ ws) w view = loaded_push (cell + 1) ws w (loaded cell x view) ∙ ap (λ n. loaded n w (loaded_all (cell + 1) ws (loaded cell x view))) (omega arith)

pub loaded_none : (first : ℕ) (out : List ℕ) (me : Me (Unit {0}) SeatView) → StandsFor (first_rider me.0) me → StandsFor (loaded_all first (take 0 out) (first_rider me.0)) me
unfolding loaded_all
loaded_none first out me stands = stands

pub loaded_next : (first k w : ℕ) (out : List ℕ) (view : RiderView) (mid after : Me (Unit {0}) SeatView) → k < length out → StandsFor (loaded_all first (take k out) view) mid → StandsFor (loaded (first + k) w (first_rider mid.0)) after
    → StandsFor (loaded_all first (take (k + 1) (set out k w)) view) after
loaded_next first k w out view mid after lt m a =
    let next : k + 1 ≡ suc k = omega arith in
    let row : take (k + 1) (set out k w) ≡ take k out ++ w ∷ [] = ap (λ n. take n (set out k w)) next ∙ take-suc-set out k w lt in
    let len : length (take k out) ≡ k = omega (arith, length-take k out, lt) in
    a ∙ ap (λ (s : Me (Unit {0}) SeatView). seat_with (loaded (first + k) w (first_rider s.0))) m
    ∙ sym (ap (λ ws. seat_with (loaded_all first ws view)) row ∙ ap seat_with (loaded_push first (take k out) w view) ∙ ap (λ n. seat_with (loaded (first + n) w (loaded_all first (take k out) view))) len)

-- loads and zeros are no calls
pub tied_loaded : (first : ℕ) (ws : List ℕ) (view : RiderView) (calls : List Entry) → AreTied view.touches calls → AreTied (loaded_all first ws view).touches calls
unfolding loaded_all
tied_loaded first [] view calls tied = tied
tied_loaded first (w ∷ ws) view calls tied = tied_loaded (first + 1) ws (loaded first w view) calls tied

pub tied_zeroed : (first n : ℕ) (view : RiderView) (calls : List Entry) → AreTied view.touches calls → AreTied (zeroed first n view).touches calls
unfolding zeroed
tied_zeroed first zero view calls tied = tied
tied_zeroed first (suc n) view calls tied = tied_zeroed first n view calls tied
