use Rattle.hl_keeper.proofs.PassLaws.{load_is}
use Rattle.hl_keeper.proofs.look.load.Goals as goal

pub returns-clause-pass : goal.returns-clause-pass
returns-clause-pass g c = load_is c.args.params c.args.a c.load_cell.result _ c.args.pass.now c.cell_of-cell.result c.load_cell.new.rider c.pass.view_is c.cell_of-cell.ensures.value c.load_cell.ensures
