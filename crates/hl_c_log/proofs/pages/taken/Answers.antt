use Rattle.std.proofs.Common.{◌≡◌, rules, sym, subst}
use Rattle.std.specs.Prelude.{Option}
use Rattle.hl_model.specs.declared.fault.Fault.TheVariants.{OutOfMemory}
use Rattle.hl_log.specs.Taken.{taking, IsFresh}
use Rattle.hl_c_log.specs.Pages.{GivesOf}
use Rattle.hl_c_log.specs.Rows.{PageRow}
use Rattle.hl_c_log.proofs.LogCalls.{lacks_memory}
use Rattle.hl_c_log.proofs.PageCalls.{given_of}
use Rattle.hl_c_log.proofs.pages.taken.Goals as goal

pub returns-in_default-vacant : goal.returns-in_default-vacant
returns-in_default-vacant c = subst (λ (r : Option PageRow.Denot). GivesOf c.args.cleans c.args.log.now c.vacant.new.log r c.brief-in_default-vacant.result) (sym c.requires)
    (OutOfMemory, lacks_memory _ _ (taking c.args.cleans) (λ A at. search (rules, c.fault_of.ensures.fault A at)) c.in_default-vacant.ensures.log, search rules)

pub returns-in-Ok : goal.returns-in-Ok
returns-in-Ok c =
    let lent : PageRow.Denot = c.deref_mut.result.now in
    let same : lent ≡ c.in-Some-vacant.own.value = search rules in
    subst (λ (r : Option PageRow.Denot). GivesOf c.args.cleans c.args.log.now c.take_page.new.self r c.brief-in-Ok.result) (sym c.put.ensures)
    (given_of c.args.cleans _ c.vacant.new.log _ lent _ c.in-Ok.number _ c.in-Some-vacant.ensures.log (subst (λ (p : PageRow.Denot). IsFresh c.args.log.now c.args.cleans p) (sym same) c.in-Some-vacant.ensures.page)
    c.in-Ok.ensures.made c.in-Ok.ensures.beside c.in-Ok.ensures.page (search rules))
