use Rattle.std.proofs.Common.{◌+◌, ◌%◌, ◌^◌}
use Rattle.hl_keeper.proofs.PassLaws.{change_is, store_touches}
use Rattle.hl_keeper.proofs.exchange.fetch_add.Goals as goal

pub invariant_of-pass : goal.invariant_of-pass
invariant_of-pass g c =
    store_touches _ c.args.pass.now c.pass.inside.own.view c.args.a ((c.fetch_add_cell-found.result + c.args.more) % 2 ^ 64) c.push.new.self c.in_ok-may_store.field-0 c.pass.view_is c.in_ok-may_store.ensures.answer c.pass.invariant.0 c.pass.invariant.1 c.push.ensures

pub returns-clause-pass : goal.returns-clause-pass
returns-clause-pass g c =
    let found = c.fetch_add_cell-found.result in
    change_is c.args.params c.args.a found ((found + c.args.more) % 2 ^ 64) _ c.args.pass.now c.cell_of-cell.result c.fetch_add_cell-found.new.rider c.push.new.self c.pass.view_is c.cell_of-cell.ensures.value c.fetch_add_cell-found.ensures c.push.ensures
