use Rattle.std.proofs.Common.{◌≡◌, ◌+◌, ◌-◌, [], replicate, vec_capacity}
use Rattle.hl_words.specs.Views.{no_offsets, fresh_from}
use Rattle.hl_words.specs.Seats.{seat_of}
use Rattle.hl_words.specs.States.{new_riders}
use Rattle.hl_words.proofs.words.Words.open_with_recorder.Given as goal

-- the master's seat stands for those who aren't dealt out yet, and so do the records
abbrev pub invariant-loop-dealt : goal.invariant-loop-dealt
invariant-loop-dealt g l =
    (l.seat.table_id ≡ g.L.Realm.table.words) × (l.seat.id ≡ 0) × (l.seat.me ≡ (seat_of no_offsets (fresh_from l._dealt (l.room.riders - l._dealt)), []))
    × (l.share.parts + l._dealt ≡ l.room.riders) × (l.share.amount ≡ 0)
    × (l.records ≡ record { list = []; records = replicate (l.room.riders - l._dealt) [] })
    × (l.riders.items ≡ new_riders l._dealt) × (vec_capacity l.riders ≡ l.room.riders)
