use Rattle.std.proofs.Common.{rules}
use Rattle.hl_words.proofs.master.Master.enter.Goals as goal

pub invariant_of-self : goal.invariant_of-self
invariant_of-self g c = search rules

pub invariant_of-rider : goal.invariant_of-rider
invariant_of-rider g c = search rules
