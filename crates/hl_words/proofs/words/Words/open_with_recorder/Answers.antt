use Rattle.std.proofs.Common.{rules, length, sym, ap, ◌∙◌, arith}
use Rattle.hl_words.proofs.Seatings.{deals}
use Rattle.hl_words.proofs.Dealing.{next_seat, is_rider, given_tied, next_records, more_riders, new_long}
use Rattle.hl_words.proofs.words.Words.open_with_recorder.Goals as goal

pub split_seat-seat-requires : goal.split_seat-seat-requires
split_seat-seat-requires g c =
    let i = c.loop-dealt.invariant in
    let seat = c.loop-dealt.seat in
    (i.0 ∙ sym (ap (λ k. k.table.words) c.seed.view_is ∙ ap (λ t. t.words) c.requires.2), omega (arith, c.seed.invariant.0.words_are), deals c.seed.inside.table.shared.key seat.id seat.me.0 i.1)

pub loop-dealt-preserved : goal.loop-dealt-preserved
loop-dealt-preserved g c =
    let i = c.loop-dealt.invariant in
    let e = c.split_seat-seat.ensures in
    let k = c.loop-dealt._dealt in
    let n = c.seed.inside.room.riders in
    let me = c.loop-dealt.seat.me in
    let next = next_records n k c.loop-dealt-test.true c.loop-dealt.records c.deal-calls.new.gathered c.deal-calls.result i.5 c.deal-calls.ensures in (
      e.0 ∙ i.0,
      e.1 ∙ i.1,
      next_seat n k c.loop-dealt-test.true me i.2 c.split_seat-seat.new.seat.me e.2,
      omega (arith, c.split_off-share.ensures.parts_left, i.3),
      omega (arith, c.split_off-share.ensures.amount_left, i.4),
      next.1,
      more_riders n k c.loop-dealt-test.true me i.2 c.split_seat-seat.result.me e.4 c.deal-calls.result next.0 c.loop-dealt.riders.items c.push_reserved.new.self.items i.6 c.push_reserved.ensures.items,
      rw c.push_reserved.ensures.capacity i.7,
    )

pub push_reserved-requires : goal.push_reserved-requires
push_reserved-requires g c =
    let i = c.loop-dealt.invariant in
    omega (arith, ap length i.6, new_long c.loop-dealt._dealt, i.7, c.loop-dealt-test.true)

pub loop-dealt-init : goal.loop-dealt-init
loop-dealt-init g c = search rules

pub invariant_of-push_reserved : goal.invariant_of-push_reserved
invariant_of-push_reserved g c =
    let i = c.loop-dealt.invariant in
    let e = c.split_seat-seat.ensures in
    let n = c.seed.inside.room.riders in
    let k = c.loop-dealt._dealt in
    let me = c.loop-dealt.seat.me in
    let next = next_records n k c.loop-dealt-test.true c.loop-dealt.records c.deal-calls.new.gathered c.deal-calls.result i.5 c.deal-calls.ensures in
    (is_rider n k c.loop-dealt-test.true me i.2 c.split_seat-seat.result.me e.4, e.3 ∙ i.0, c.split_off-share.ensures.parts, c.split_off-share.ensures.amount, given_tied n k c.loop-dealt-test.true me i.2 c.split_seat-seat.result.me e.4 c.deal-calls.result next.0)
