use Rattle.std.proofs.Common.{arith, rules}
use Rattle.std.proofs.lemmas.Grind.{common_steps}
use Rattle.hl_core.proofs.RunStands.{ran_none, ran_next, ran_headline}
use Rattle.hl_core.proofs.run.Core+E+Tag.run.Goals as goal

pub loop-i-init : goal.loop-i-init
loop-i-init g c = ran_none (λ t. t.0) c.args.self.now c.args.steps.now c.args.results.now c.requires

pub loop-i-preserved : goal.loop-i-preserved
loop-i-preserved g c = ran_next (λ t. t.0) c.args.self.now c.args.steps.now c.loop-i.self c.loop-i.results c.loop-i.i _ c.step.new.self c.step.result c.step.ensures.sizes c.loop-i.invariant (search rules) (search rules) c.step.ensures.made

pub returns-clause-headline : goal.returns-clause-headline
returns-clause-headline g c A st = ran_headline (λ t. t.0) c.args.self.now A c.args.steps.now st

pub returns-clause-replies : goal.returns-clause-replies
returns-clause-replies g c = grind (arith, common_steps)

pub returns-clause-standing : goal.returns-clause-standing
returns-clause-standing g c = grind (arith, common_steps)
