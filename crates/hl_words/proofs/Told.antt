-- What a seat stands for once a past or a rider was joined in.
use Rattle.std.proofs.Common.{◌≡◌, ℕ, List, [], ◌∷◌, ap, sym, ◌∙◌}
use Rattle.std.specs.List.{AllByRecursion as Every}
use Rattle.std.specs.Prelude.{slice_index_or, Option, None, Some, IfSome}
use Rattle.std.proofs.lemmas.List.{append-nil}
use Rattle.atomic_table.specs.Table.{Me}
use Rattle.hl_words.specs.declared.view.Extent.{Extent}
use Rattle.hl_words.specs.declared.view.OffsetWords.{OffsetWords}
use Rattle.hl_words.specs.declared.view.RiderView.{RiderView}
use Rattle.hl_words.specs.declared.view.SeatView.{SeatView}
use Rattle.hl_words.specs.Seats.{master_seat, rider_seat, joined_seat, knows_seat, spent_seat, IsKnown, knowing}
use Rattle.hl_words.specs.declared.view.Known.{Known}
use Rattle.hl_words.proofs.Seatings.{full_seat}
use Rattle.hl_words.specs.States.{known_by, known_to_all, IsMasterSeat}

-- the seat of a past's badge
pub of_past : (views : List SeatView) (v : SeatView) → views ≡ knows_seat (known_by views) ∷ [] → views ≡ v ∷ [] → v ≡ knows_seat (known_by views)
of_past views v is e = ap (λ vs. slice_index_or vs 0 spent_seat) (sym e ∙ is)

-- the master's seat with one rider joined in
pub with_rider : (m : Extent) (last : OffsetWords) (r : RiderView) (id new : ℕ) (me after : Me (Unit {0}) SeatView) (w : SeatView) → IsMasterSeat m last [] id me → w ≡ rider_seat r → new ≡ id → after ≡ (joined_seat me.0 w, me.1)
    → IsMasterSeat after.0.called last (r ∷ []) new after
with_rider m last r id new me after w is mine same e =
    let now : after ≡ (master_seat m last (r ∷ []), []) = e ∙ ap (λ (x : SeatView). (joined_seat me.0 x, me.1)) mine ∙ ap (λ (y : Me (Unit {0}) SeatView). (joined_seat y.0 (rider_seat r), y.1)) is.knows in
    let number : after.0.called ≡ m = ap (λ (y : Me (Unit {0}) SeatView). y.0.called) now in
    record { first = same ∙ is.first; knows = now ∙ ap (λ (n : Extent). (master_seat n last (r ∷ []), [])) (sym number) }

-- the master's seat that took pasts back
pub attested : (m : Extent) (last : OffsetWords) (riders : List RiderView) (ks : List Known) (me after : Me (Unit {0}) SeatView) → me ≡ (master_seat m last riders, []) → after ≡ (knowing ks me.0, me.1) → after.0 ≡ full_seat last riders m ks
attested m last riders ks me after is e = ap (λ (x : Me (Unit {0}) SeatView). x.0) e ∙ ap (λ (x : Me (Unit {0}) SeatView). knowing ks x.0) is ∙ ap (λ l. full_seat last riders m l) (append-nil ks)

-- what they told, if there were any
pub known_back : {R : Type 0} (items : R → List Known) (riders : List RiderView) (pasts : Option R) → Every (IsKnown riders) (known_to_all items pasts) → IfSome pasts (λ all. Every (IsKnown riders) (items all))
known_back items riders None h = tt
known_back items riders (Some all) h = h
