use Rattle.std.proofs.Common.{sym, ◌∙◌, arith}
use Rattle.hl_history.proofs.Steps.{deals}
use Rattle.hl_history.proofs.history.History.deal.Goals as goal

pub split_seat-seat-requires : goal.split_seat-seat-requires
split_seat-seat-requires g c =
    let h = c.self.invariant in
    let seat = c.gathered.inside.seat in
    (c.gathered.invariant.1 ∙ sym h.1, omega (arith, h.0.words_are), deals c.self.inside.table.shared.key seat.id seat.me.0 c.gathered.invariant.0.first)
