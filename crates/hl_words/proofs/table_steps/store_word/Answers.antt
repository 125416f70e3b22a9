use Rattle.std.proofs.Common.{◌≤◌, ◌+◌, subst, arith}
use Rattle.hl_words.specs.declared.which.Which.{Which}
use Rattle.hl_words.specs.declared.which.Which.TheVariants.{ReadOnly, Head, Ended, SafeReadOnly}
use Rattle.hl_words.specs.Views.{offset_of}
use Rattle.hl_words.proofs.Seatings.{sets_allowed}
use Rattle.hl_words.proofs.table_steps.store_word.Goals as goal

pub store-requires : goal.store-requires
store-requires c =
    let table = c.args.table.now.shared in
    let seat = c.args.seat.now in
    let m = seat.me.0 in
    let rises : offset_of ReadOnly m.offsets ≤ c.args.word = subst (λ (w : Which). offset_of w m.offsets ≤ c.args.word) c.in-ReadOnly.is c.requires.rises in
    (c.requires.there, omega (arith, c.requires.wide.0, c.requires.cells), sets_allowed table.key table.table_id.slots seat.id seat.me m.called m.offsets m.riders ReadOnly (c.args.cells + 16) c.args.word c.requires.master.first c.requires.master.knows (omega (arith, c.requires.cells)) rises)

pub store-requires-in-Head : goal.store-requires-in-Head
store-requires-in-Head c =
    let table = c.args.table.now.shared in
    let seat = c.args.seat.now in
    let m = seat.me.0 in
    let rises : offset_of Head m.offsets ≤ c.args.word = subst (λ (w : Which). offset_of w m.offsets ≤ c.args.word) c.in-Head.is c.requires.rises in
    (c.requires.there, omega (arith, c.requires.wide.0, c.requires.cells), sets_allowed table.key table.table_id.slots seat.id seat.me m.called m.offsets m.riders Head (c.args.cells + 17) c.args.word c.requires.master.first c.requires.master.knows (omega (arith, c.requires.cells)) rises)

pub store-requires-in-Ended : goal.store-requires-in-Ended
store-requires-in-Ended c =
    let table = c.args.table.now.shared in
    let seat = c.args.seat.now in
    let m = seat.me.0 in
    let rises : offset_of Ended m.offsets ≤ c.args.word = subst (λ (w : Which). offset_of w m.offsets ≤ c.args.word) c.in-Ended.is c.requires.rises in
    (c.requires.there, omega (arith, c.requires.wide.0, c.requires.cells), sets_allowed table.key table.table_id.slots seat.id seat.me m.called m.offsets m.riders Ended (c.args.cells + 18) c.args.word c.requires.master.first c.requires.master.knows (omega (arith, c.requires.cells)) rises)

pub store-requires-in-SafeReadOnly : goal.store-requires-in-SafeReadOnly
store-requires-in-SafeReadOnly c =
    let table = c.args.table.now.shared in
    let seat = c.args.seat.now in
    let m = seat.me.0 in
    let rises : offset_of SafeReadOnly m.offsets ≤ c.args.word = subst (λ (w : Which). offset_of w m.offsets ≤ c.args.word) c.in-SafeReadOnly.is c.requires.rises in
    (c.requires.there, omega (arith, c.requires.wide.0, c.requires.cells), sets_allowed table.key table.table_id.slots seat.id seat.me m.called m.offsets m.riders SafeReadOnly (c.args.cells + 19) c.args.word c.requires.master.first c.requires.master.knows (omega (arith, c.requires.cells)) rises)
