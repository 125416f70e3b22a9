use Rattle.std.proofs.Common.{[], sym, ap, ◌∙◌, arith, subst}
use Rattle.atomic_table.specs.Table.{Me}
use Rattle.hl_words.specs.declared.view.SeatView.{SeatView}
use Rattle.hl_words.specs.Seats.{rider_seat}
use Rattle.hl_words.specs.States.{first_rider, AreTied}
use Rattle.hl_words.proofs.Rows.{can_step, tied_zeroed}
use Rattle.hl_words.proofs.words.Words.zero_cells.Goals as goal

pub zero_cells-requires-clause-can : goal.zero_cells-requires-clause-can
zero_cells-requires-clause-can g c =
    let t = c.self.invariant in
    let r = c.rider.invariant in
    can_step c.self.inside.room c.self.inside.table.shared.key _ _ _ t.0 (r.1 ∙ sym t.1) r.0

pub zero_cells-requires-clause-cells : goal.zero_cells-requires-clause-cells
zero_cells-requires-clause-cells g c = omega (arith, c.requires, ap (λ w. w.cells) c.self.view_is, ap (λ k. k.cells) c.self.invariant.0.key_is)

pub invariant_of-rider : goal.invariant_of-rider
invariant_of-rider g c =
    let r = c.rider.invariant in
    let e = c.zero_cells.ensures in
    let calls = c.rider.inside.calls in (
      e.did ∙ ap (λ (m : Me (Unit {0}) SeatView). (rider_seat (first_rider m.0), [])) (sym e.did),
      e.seat ∙ r.1,
      r.2,
      r.3,
      subst (λ (m : Me (Unit {0}) SeatView). AreTied (first_rider m.0).touches calls) (sym e.did) (tied_zeroed c.args.first c.args.n (first_rider c.rider.inside.seat.me.0) calls r.4),
    )
