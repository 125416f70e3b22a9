use Rattle.std.proofs.Common.{◌+◌, arith}
use Rattle.hl_words.proofs.Steps.{loads_allowed}
use Rattle.hl_words.proofs.table_steps.load_cell.Goals as goal

pub load-requires : goal.load-requires
load-requires c =
    let can = c.requires.can in
    let table = c.args.table.now.shared in
    let seat = c.args.seat.now in
    (can.there, omega (arith, c.requires.cell, can.wide.0), loads_allowed table.key table.table_id.slots seat.id seat.me _ (8 + c.args.cell) can.rider (omega arith) (omega (arith, c.requires.cell)))
