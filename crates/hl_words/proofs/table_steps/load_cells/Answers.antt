use Rattle.std.proofs.Common.{refl, ◌∙◌, arith}
use Rattle.hl_words.specs.States.{first_rider}
use Rattle.hl_words.proofs.Rows.{loaded_none, loaded_next}
use Rattle.hl_words.proofs.table_steps.load_cells.Goals as goal

pub loop-k-init : goal.loop-k-init
loop-k-init c = (refl, loaded_none c.args.first c.args.out.now c.args.seat.now.me c.requires.can.rider)

pub loop-k-preserved : goal.loop-k-preserved
loop-k-preserved c =
    let i = c.loop-k.invariant in
    let e = c.load_cell.ensures in
    (e.seat ∙ i.0, loaded_next c.args.first c.loop-k.k c.load_cell.result c.loop-k.out (first_rider c.args.seat.now.me.0) c.loop-k.seat.me c.load_cell.new.seat.me (omega (arith, c.loop-k.auto.out, c.loop-k-test.true)) i.1 e.did)
