use Rattle.std.proofs.Common.{sym, ap, ◌∙◌, arith}
use Rattle.hl_words.specs.States.{known_by}
use Rattle.hl_words.proofs.Seatings.{copies}
use Rattle.hl_words.proofs.Told.{of_past}
use Rattle.hl_words.proofs.words.Words.past_again.Goals as goal

pub split_seat-other-requires : goal.split_seat-other-requires
split_seat-other-requires g c =
    let t = c.self.invariant in
    let s = c.past.invariant in
    let was = c.replace.ensures.value in
    let its = c.into_seat-seat.ensures in
    let views = c.past.inside.badge.views in
    let seat = c.into_seat-seat.result in
    (its.0 ∙ ap (λ b. b.table_id) was ∙ s.1 ∙ sym t.1, omega (arith, t.0.words_are), copies c.self.inside.table.shared.key seat.id seat.me.0 (known_by views) (of_past views seat.me.0 s.0 (sym (ap (λ b. b.views) was) ∙ its.2)))
