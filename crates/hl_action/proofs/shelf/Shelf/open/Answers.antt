use Rattle.std.proofs.Common.{rules, arith}
use Rattle.std.proofs.lemmas.Grind.{common_steps}
use Rattle.hl_action.proofs.shelf.Shelf.open.Goals as goal

pub loop-init : goal.loop-init
loop-init g c = search rules

pub push_reserved-requires : goal.push_reserved-requires
push_reserved-requires g c = grind (arith, common_steps)

pub loop-preserved : goal.loop-preserved
loop-preserved g c = grind (arith, common_steps)

pub invariant_of-result : goal.invariant_of-result
invariant_of-result g c = grind (arith, common_steps)

pub returns-clause-free : goal.returns-clause-free
returns-clause-free g c = grind (arith, common_steps)
