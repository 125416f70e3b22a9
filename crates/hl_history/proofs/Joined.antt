-- What the recorder's seat knows of the one record that a call joined in.
use Rattle.std.proofs.Common.{◌≡◌, ℕ, List, [], ◌∷◌, ap, sym, ◌∙◌, subst}
use Rattle.std.specs.Prelude.{slice_index_or}
use Rattle.std.specs.List.{AllByRecursion as Every}
use Rattle.atomic_table.specs.Table.{Me}
use Rattle.hl_model.specs.declared.step.Step.{Step}
use Rattle.hl_history.specs.declared.view.Entry.{Entry}
use Rattle.hl_history.specs.declared.view.SeatView.{SeatView}
use Rattle.hl_history.specs.Lists.{IsOf}
use Rattle.hl_history.specs.Seats.{record_seat, spent_seat, joined_seat}
use Rattle.hl_history.specs.States.{record_of, IsRecorderSeat}

-- the seat of a record's badge
pub of_badge : (views : List SeatView) (v : SeatView) → views ≡ record_seat (record_of views) ∷ [] → views ≡ v ∷ [] → v ≡ record_seat (record_of views)
of_badge views v is e = ap (λ vs. slice_index_or vs 0 spent_seat) (sym e ∙ is)

-- the recorder's seat with one record joined in
pub with_one : (list : List Step) (d : List Entry) (id new : ℕ) (me after : Me (Unit {0}) SeatView) (w : SeatView) → IsRecorderSeat list [] id me → w ≡ record_seat d → new ≡ id → after ≡ (joined_seat me.0 w, me.1)
    → IsRecorderSeat list (d ∷ []) new after
with_one list d id new me after w is mine same e =
    record {
      first = same ∙ is.first;
      knows = e ∙ ap (λ (x : SeatView). (joined_seat me.0 x, me.1)) mine ∙ ap (λ (m : Me (Unit {0}) SeatView). (joined_seat m.0 (record_seat d), m.1)) is.knows;
    }

-- what the recorder's seat with one record joined in saw of it
pub saw_one : (list : List Step) (d : List Entry) (id : ℕ) (me : Me (Unit {0}) SeatView) → IsRecorderSeat list (d ∷ []) id me → Every (IsOf me.0.list) me.0.records → IsOf list d
saw_one list d id me is h = (subst (λ (m : Me (Unit {0}) SeatView). Every (IsOf m.0.list) m.0.records) is.knows h).0

-- it is the same after the look
pub after_look : (list : List Step) (ds : List (List Entry)) (id new : ℕ) (me after : Me (Unit {0}) SeatView) → IsRecorderSeat list ds id me → new ≡ id → after ≡ me → IsRecorderSeat list ds new after
after_look list ds id new me after is same e = record { first = same ∙ is.first; knows = e ∙ is.knows }
