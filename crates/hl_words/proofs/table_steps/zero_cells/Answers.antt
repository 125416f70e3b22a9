use Rattle.std.proofs.Common.{refl, ◌∙◌}
use Rattle.hl_words.specs.States.{first_rider}
use Rattle.hl_words.proofs.Rows.{zeroed_none, zeroed_next}
use Rattle.hl_words.proofs.table_steps.zero_cells.Goals as goal

pub loop-k-init : goal.loop-k-init
loop-k-init c = (refl, zeroed_none c.args.first c.args.seat.now.me c.requires.can.rider)

pub loop-k-preserved : goal.loop-k-preserved
loop-k-preserved c =
    let i = c.loop-k.invariant in
    let e = c.store_cell.ensures in
    (e.seat ∙ i.0, zeroed_next c.args.first c.loop-k.k (first_rider c.args.seat.now.me.0) c.loop-k.seat.me c.store_cell.new.seat.me i.1 e.did)
