use Rattle.hl_keeper.proofs.TouchLaws.{no_touch}
use Rattle.hl_keeper.proofs.pass.Pass.new.Goals as goal

pub invariant_of-result : goal.invariant_of-result
invariant_of-result g c = no_touch c.args.t c.args.slot.view c.new.result c.new.ensures
