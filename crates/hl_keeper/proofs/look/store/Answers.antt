use Rattle.hl_keeper.proofs.PassLaws.{store_is, store_touches}
use Rattle.hl_keeper.proofs.look.store.Goals as goal

pub invariant_of-pass : goal.invariant_of-pass
invariant_of-pass g c = store_touches _ c.args.pass.now c.pass.inside.own.view c.args.a c.args.v c.push.new.self c.in_ok-may_store.field-0 c.pass.view_is c.in_ok-may_store.ensures.answer c.pass.invariant.0 c.pass.invariant.1 c.push.ensures

pub returns-clause-pass : goal.returns-clause-pass
returns-clause-pass g c = store_is c.args.params c.args.a c.args.v _ c.args.pass.now c.cell_of-cell.result c.store_cell.new.rider c.push.new.self c.in_ok-may_store.field-0 c.pass.view_is c.in_ok-may_store.ensures.answer c.cell_of-cell.ensures.value c.store_cell.ensures c.push.ensures
