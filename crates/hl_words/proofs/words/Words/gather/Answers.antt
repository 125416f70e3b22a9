use Rattle.std.proofs.Common.{arith, sym, ap, ◌∙◌}
use Rattle.std.proofs.lemmas.Grind.{common_steps}
use Rattle.hl_words.proofs.Seatings.{joins}
use Rattle.hl_words.proofs.words.Words.gather.Goals as goal

pub join_seat-requires : goal.join_seat-requires
join_seat-requires g c =
    let i = c.loop-rider.invariant in
    let t = c.self.invariant in
    let r = c.rider.invariant in
    let seat = c.loop-rider.ended.seat in
    (i.2 ∙ sym t.1, r.1 ∙ sym t.1, ap (λ m. m.1) r.0, omega (arith, t.0.words_are), joins c.self.inside.table.shared.key seat.id seat.me.0 c.rider.inside.seat.id c.rider.inside.seat.me.0 _ i.3 (ap (λ m. m.0) r.0))

pub loop-rider-preserved : goal.loop-rider-preserved
loop-rider-preserved g c = grind (arith, common_steps)
