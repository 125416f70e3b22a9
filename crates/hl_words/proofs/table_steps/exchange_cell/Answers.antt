use Rattle.std.proofs.Common.{◌+◌, arith}
use Rattle.hl_words.proofs.Steps.{exchanges_allowed}
use Rattle.hl_words.proofs.table_steps.exchange_cell.Goals as goal

pub compare_exchange-requires : goal.compare_exchange-requires
compare_exchange-requires c =
    let can = c.requires.can in
    let table = c.args.table.now.shared in
    let seat = c.args.seat.now in
    (can.there, omega (arith, c.requires.cell, can.wide.0), exchanges_allowed table.key table.table_id.slots seat.id seat.me _ (8 + c.args.cell) c.args.old c.args.new can.rider (omega arith) (omega (arith, c.requires.cell)))
