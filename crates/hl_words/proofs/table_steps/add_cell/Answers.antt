use Rattle.std.proofs.Common.{◌+◌, arith}
use Rattle.hl_words.proofs.Steps.{adds_allowed}
use Rattle.hl_words.proofs.table_steps.add_cell.Goals as goal

pub fetch_add-requires : goal.fetch_add-requires
fetch_add-requires c =
    let can = c.requires.can in
    let table = c.args.table.now.shared in
    let seat = c.args.seat.now in
    (can.there, omega (arith, c.requires.cell, can.wide.0), adds_allowed table.key table.table_id.slots seat.id seat.me _ (8 + c.args.cell) c.args.more can.rider (omega arith) (omega (arith, c.requires.cell)))
