use Rattle.std.proofs.Common.{◌≡◌, rules, sym, subst}
use Rattle.std.specs.Prelude.{Option}
use Rattle.hl_model.specs.declared.fault.Fault.TheVariants.{OutOfMemory}
use Rattle.hl_model.specs.declared.step.Step.TheVariants.{Acquire}
use Rattle.hl_c_log.specs.Passes.{AcquiresOf}
use Rattle.hl_c_log.specs.Rows.{PassRow}
use Rattle.hl_c_log.proofs.LogCalls.{lacks_memory}
use Rattle.hl_c_log.proofs.PassCalls.{Protects, acquired_of}
use Rattle.hl_c_log.proofs.acquire.acquired.Goals as goal

pub returns-in_default-vacant : goal.returns-in_default-vacant
returns-in_default-vacant c = subst (λ (r : Option PassRow.Denot). AcquiresOf c.args.slot c.args.log.now c.vacant.new.log r c.of_fault-in_default-vacant.result) (sym c.requires)
    (OutOfMemory, lacks_memory _ _ (Acquire c.args.slot) (λ A at. search (rules, c.fault_of.ensures.fault A at)) c.in_default-vacant.ensures.log, search rules)

pub returns-in-Ok : goal.returns-in-Ok
returns-in-Ok c =
    let lent : PassRow.Denot = c.deref_mut.result.now in
    let same : lent ≡ c.in-Some-vacant.own.value = search rules in
    let made : Protects c.vacant.new.log lent c.acquire.new.self c.acquire.new.pass c.in-Ok.reply = record {
      made = c.in-Ok.ensures.made;
      stamps = c.in-Ok.ensures.stamps;
      pass = c.in-Ok.ensures.pass;
      known = c.in-Ok.ensures.known;
    } in
    subst (λ (r : Option PassRow.Denot). AcquiresOf c.args.slot c.args.log.now c.acquire.new.self r c.of.result) (sym c.put.ensures)
    (acquired_of c.args.slot _ c.vacant.new.log _ c.in-Some-vacant.own.value _ c.in-Ok.reply _ (λ A at. search (rules, c.fault_of.ensures.fault A at)) c.in-Some-vacant.ensures.log c.in-Some-vacant.ensures.pass
    (subst (λ (p : PassRow.Denot). Protects c.vacant.new.log p c.acquire.new.self c.acquire.new.pass c.in-Ok.reply) same made) c.of.ensures)
