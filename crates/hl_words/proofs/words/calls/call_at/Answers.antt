use Rattle.std.proofs.Common.{subst}
use Rattle.hl_words.specs.Rule.{RisesTo}
use Rattle.hl_words.proofs.Seatings.{calls}
use Rattle.hl_words.proofs.words.calls.call_at.Goals as goal

pub split_seat-requires : goal.split_seat-requires
split_seat-requires g c =
    let s = c.requires.seat in
    let me = c.args.seat.now.me in
    (c.requires.table.0, c.requires.table.1, calls c.args.table.now.shared.key g.S.Place.left c.args.seat.now.id me me.0.called s.0 s.1 s.2.first s.2.knows (subst (λ e. RisesTo me.0.called e) c.requires.picked c.requires.rises))
