use Rattle.std.proofs.Common.{◌≡◌, ◌+◌, List, [], ◌++◌, map, length}
use Rattle.std.specs.List.{sum_by, AllByRecursion}
use Rattle.hl_words.specs.Seats.{master_seat}
use Rattle.hl_words.specs.States.{RiderState, AreTied, with_records}
use Rattle.hl_words.proofs.words.Words.gather.Given as goal

-- the master's seat stands for those who were taken off the row's end
abbrev pub invariant-loop-rider : goal.invariant-loop-rider
invariant-loop-rider g l =
    (done : List RiderState) × (l.initial.riders.items ≡ l.riders.items ++ done)
    × (l.ended.seat.table_id ≡ g.L.Realm.table.words) × (l.ended.seat.id ≡ 0) × (l.ended.seat.me ≡ (master_seat l.initial.ended.seat.me.0.called l.initial.ended.seat.me.0.offsets (map (λ (r : RiderState). r.view) done), []))
    × (l.ended.share.parts ≡ l.initial.ended.share.parts + length done) × (l.ended.share.amount ≡ l.initial.ended.share.amount + sum_by (λ (r : RiderState). r.share) done)
    × (l.ended.records ≡ with_records (map (λ (r : RiderState). r.calls) done) l.initial.ended.records)
    × AllByRecursion (λ (r : RiderState). AreTied r.view.touches r.calls) done

abbrev pub decreases-loop-rider : goal.decreases-loop-rider
decreases-loop-rider g l = goal.left-loop-rider g l
