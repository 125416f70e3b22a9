use Rattle.std.proofs.Common.{◌≡◌, List, ◌++◌}
use Rattle.hl_words.specs.declared.view.Known.{Known}
use Rattle.hl_words.specs.Seats.{knowing}
use Rattle.hl_words.proofs.words.Words.attest_all.Given as goal

-- the seat knows what those told that were taken off the row's end
abbrev pub invariant-loop-past : goal.invariant-loop-past
invariant-loop-past g l =
    (done : List Known) × (l.initial.pasts.items ≡ l.pasts.items ++ done)
    × (l.seat.table_id ≡ l.initial.seat.table_id) × (l.seat.id ≡ l.initial.seat.id) × (l.seat.me ≡ (knowing done l.initial.seat.me.0, l.initial.seat.me.1))

abbrev pub decreases-loop-past : goal.decreases-loop-past
decreases-loop-past g l = goal.left-loop-past g l
