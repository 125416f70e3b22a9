use Rattle.std.proofs.Common.{◌∙◌, ap, sym, arith}
use Rattle.hl_words.proofs.Seatings.{deals}
use Rattle.hl_words.proofs.row.Row.deal.Goals as goal

pub split_seat-seat-requires : goal.split_seat-seat-requires
split_seat-seat-requires c =
    let m = c.master.inside.seat in
    let key = c.self.inside.table.shared.key in
    (ap (λ w. w.table) c.master.view_is ∙ c.requires ∙ sym (ap (λ w. w.table) c.self.view_is), omega (arith, c.self.invariant.1.0), deals key m.id m.me.0 c.master.invariant.0.first)
