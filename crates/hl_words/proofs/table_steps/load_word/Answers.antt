use Rattle.std.proofs.Common.{◌+◌, arith}
use Rattle.hl_words.specs.declared.which.Which.TheVariants.{ReadOnly, Head, Ended, SafeReadOnly}
use Rattle.hl_words.proofs.Steps.{looks_allowed}
use Rattle.hl_words.proofs.table_steps.load_word.Goals as goal

pub load-requires : goal.load-requires
load-requires c =
    let can = c.requires.can in
    let table = c.args.table.now.shared in
    let seat = c.args.seat.now in
    (can.there, omega (arith, can.wide.0, c.requires.cells), looks_allowed table.key table.table_id.slots seat.id seat.me _ ReadOnly (c.args.cells + 16) can.rider (omega (arith, c.requires.cells)))

pub load-requires-in-Head : goal.load-requires-in-Head
load-requires-in-Head c =
    let can = c.requires.can in
    let table = c.args.table.now.shared in
    let seat = c.args.seat.now in
    (can.there, omega (arith, can.wide.0, c.requires.cells), looks_allowed table.key table.table_id.slots seat.id seat.me _ Head (c.args.cells + 17) can.rider (omega (arith, c.requires.cells)))

pub load-requires-in-Ended : goal.load-requires-in-Ended
load-requires-in-Ended c =
    let can = c.requires.can in
    let table = c.args.table.now.shared in
    let seat = c.args.seat.now in
    (can.there, omega (arith, can.wide.0, c.requires.cells), looks_allowed table.key table.table_id.slots seat.id seat.me _ Ended (c.args.cells + 18) can.rider (omega (arith, c.requires.cells)))

pub load-requires-in-SafeReadOnly : goal.load-requires-in-SafeReadOnly
load-requires-in-SafeReadOnly c =
    let can = c.requires.can in
    let table = c.args.table.now.shared in
    let seat = c.args.seat.now in
    (can.there, omega (arith, can.wide.0, c.requires.cells), looks_allowed table.key table.table_id.slots seat.id seat.me _ SafeReadOnly (c.args.cells + 19) can.rider (omega (arith, c.requires.cells)))
