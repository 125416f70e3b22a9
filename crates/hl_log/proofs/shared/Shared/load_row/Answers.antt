use Rattle.std.proofs.Common.{arith}
use Rattle.hl_log.proofs.LoadLaws.{row_next}
use Rattle.hl_log.proofs.shared.Shared.load_row.Goals as goal

pub loop-k-preserved : goal.loop-k-preserved
loop-k-preserved c = row_next c.args.self.now.sizes c.args.address c.loop-k.k c.load_cell.result c.cell-cell.result c.loop-k.out c.args.rider.now c.loop-k.rider c.load_cell.new.rider (omega (arith, c.loop-k.auto.out, c.loop-k-test.true)) c.loop-k.invariant c.cell-cell.ensures.value c.load_cell.ensures
