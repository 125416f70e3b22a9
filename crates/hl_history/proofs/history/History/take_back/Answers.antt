use Rattle.std.proofs.Common.{sym, ◌∙◌, arith}
use Rattle.hl_history.specs.States.{record_of}
use Rattle.hl_history.proofs.Steps.{joins}
use Rattle.hl_history.proofs.Joined.{of_badge}
use Rattle.hl_history.proofs.history.History.take_back.Goals as goal

pub join_seat-requires : goal.join_seat-requires
join_seat-requires g c =
    let h = c.self.invariant in
    let s = c.gathered.invariant in
    let d = c.calls.invariant in
    let its = c.into_seat.ensures in
    let views = c.calls.inside.badge.views in
    let seat = c.gathered.inside.seat in
    (s.1 ∙ sym h.1, its.0 ∙ d.1 ∙ sym h.1, its.3, omega (arith, h.0.words_are), joins c.self.inside.table.shared.key seat.id seat.me.0 c.into_seat.result.id c.into_seat.result.me.0 (record_of views) s.0.first (of_badge views c.into_seat.result.me.0 d.0 its.2))
